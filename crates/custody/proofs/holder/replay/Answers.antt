use Rattle.std.proofs.Common.{◌≡◌, [], ap, ◌∙◌, subst, ap₂}
use Rattle.custody.specs.Exchanges.{asked_of, calls_of, replied_of}
use Rattle.custody.specs.Promise.{Kept, Upheld, given, replies}
use Rattle.keying.specs.Told.{Told, telling}
use Rattle.keying.specs.Drafts.{told_by as drafted}
use Rattle.custody.specs.Stations.{key_of, told_by, shown_by}
use Rattle.custody.proofs.Running.{kept_start, upheld_start}
use Rattle.custody.proofs.holder.replay.Goals as goal

pub returns : goal.returns
returns g c =
    let P = g.P.RingEngine in
    let Q = g.Q.RingEngine in
    let d = c.args.draft in
    let s = c.commission-station.result in
    let p = c.commission-station.ensures in
    let q = c.carry_out.ensures in
    let xs = c.args.exchanges.now in
    let T : Told = drafted P Q d in
    let first : Told = told_by P Q s in
    let same : first ≡ T = ap (λ e. telling P Q e.field e.binary) p.engines in
    let end = shown_by c.carry_out.new.self in
    let new = replied_of c.carry_out.new.exchanges in
    record {
      key = q.leaves.0 ∙ p.key;
      told = q.leaves.1 ∙ same;
      calls = q.calls;
      replied = q.replied ∙ ap₂ (λ k t. given (replies k t (shown_by s) (asked_of xs))) p.key same ∙ ap (λ b. given (replies d.key T b (asked_of xs))) p.places;
      kept = subst (λ k. Kept k T (calls_of xs) end) p.key
          (subst (λ t. Kept (key_of s) t (calls_of xs) end) same (q.kept [] (kept_start (key_of s) first (shown_by s) p.places)));
      upheld = subst (λ k. Upheld k T (asked_of xs) new end) p.key
          (subst (λ t. Upheld (key_of s) t (asked_of xs) new end) same (q.upheld [] [] (upheld_start (key_of s) first (shown_by s) p.places)));
    }
