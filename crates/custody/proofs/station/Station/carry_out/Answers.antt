use Rattle.std.proofs.Common.{◌≡◌, length, get_or, take, Some, sym, refl, ap, ◌∙◌, ap₂, arith, take_all}
use Rattle.std.proofs.lemmas.List.{with_items_is}
use Rattle.std.specs.Vec.{with_items}
use Rattle.custody.specs.declared.exchange.Exchange.{Exchange}
use Rattle.custody.specs.Calls.{answer, after, buffer_after}
use Rattle.custody.specs.Ledger.{all_after}
use Rattle.custody.specs.Exchanges.{asked_of, calls_of, replied_of}
use Rattle.custody.specs.Promise.{given, replies}
use Rattle.keying.specs.Told.{Told}
use Rattle.custody.specs.Stations.{told_by}
use Rattle.places.specs.Views.{book}
use Rattle.custody.proofs.Exchanging.{going_starts, going_on, asked_calls}
use Rattle.custody.proofs.Running.{run_keeps, run_upholds}
use Rattle.custody.proofs.station.Station.carry_out.Goals as goal

pub loop-x-init : goal.loop-x-init
loop-x-init g c = (refl, refl, going_starts _ _ _ _)

pub loop-x-preserved : goal.loop-x-preserved
loop-x-preserved g c =
    let was = c.args.self.now in
    let K = was.register.key in
    let T : Told = told_by g.P.RingEngine g.Q.RingEngine was in
    let inv = c.loop-x.invariant in
    let p = c.perform-answer.ensures in
    let xs = c.loop-x.exchanges in
    let i = c.loop-x.x-index in
    let x = get_or xs i c.x-item.result in
    let lent = c.as_mut_slice.ensures.value in
    let B = book c.loop-x.self.register in
    let ws = c.perform-answer.new.buffer in
    let next : Exchange = record { call = x.call; buffer = with_items x.buffer ws; answer = Some c.perform-answer.result } in (
      p.leaves.0 ∙ inv.0,
      p.leaves.1 ∙ inv.1,
      going_on K T (book was.register) c.args.exchanges.now i B xs inv.2 c.loop-x-test.true c.loop-x.auto.exchanges
          c.x-item.result x next _ refl refl
          (ap Some (p.answers ∙ ap₂ (λ k t. answer k t B x.call (length c.as_mut_slice.result.now)) inv.0 inv.1 ∙ ap (λ b. answer K T B x.call (length b)) lent))
          (with_items_is x.buffer ws (omega (arith, c.perform-answer.auto.buffer, c.as_mut_slice.ensures.len))
          ∙ p.writes ∙ ap₂ (λ k t. buffer_after k t B x.call c.as_mut_slice.result.now) inv.0 inv.1 ∙ ap (buffer_after K T B x.call) lent)
          (p.leaves.2 ∙ ap₂ (λ k t. after k t B x.call) inv.0 inv.1),
    )

pub returns : goal.returns
returns g c =
    let was = c.args.self.now in
    let K = was.register.key in
    let T : Told = told_by g.P.RingEngine g.Q.RingEngine was in
    let B = book was.register in
    let inv = c.loop-x.invariant in
    let old = c.args.exchanges.now in
    let i = c.loop-x.x-index in
    let all : take i old ≡ old = take_all i old c.loop-x-test.false in
    let every : take i c.loop-x.exchanges ≡ c.loop-x.exchanges = take_all i _ (omega (arith, c.loop-x.auto.exchanges, c.loop-x-test.false)) in
    record {
      calls = inv.2.calls;
      leaves = (inv.0, inv.1, inv.2.places ∙ ap (λ w. all_after K T B (calls_of w)) all);
      replied = ap replied_of (sym every) ∙ inv.2.replied ∙ ap (λ w. given (replies K T B (asked_of w))) all;
      kept = λ past kept. run_keeps K T past (calls_of old) B _ kept (inv.2.places ∙ ap (λ w. all_after K T B (calls_of w)) all);
      upheld = λ asked replied past. run_upholds K T asked (asked_of old) replied B past _ (replied_of c.loop-x.exchanges)
          (inv.2.places ∙ ap (λ w. all_after K T B (calls_of w)) all ∙ ap (all_after K T B) (sym (asked_calls old)))
          (ap replied_of (sym every) ∙ inv.2.replied ∙ ap (λ w. given (replies K T B (asked_of w))) all);
    }
