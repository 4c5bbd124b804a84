use Rattle.std.proofs.Common.{◌≡◌, ◌<◌, ◌-◌, length, drop, get_or, refl, ap, ◌∙◌, arith}
use lib.ListN.{length-replicate}
use Rattle.std.proofs.lemmas.Iterator.Adapters.{YieldsList-from_rev_slice}
use Rattle.std.proofs.lemmas.Iterator.Consumers.{YieldsList-turn}
use Rattle.std.proofs.lemmas.List.{get_or-reverse, length-reverse, length_push}
use Rattle.ring.specs.Rows.{product}
use Rattle.ring.proofs.Mixed.{mixed_none, mixed-all}
use Rattle.ring.proofs.Steps.{zero_made, horner_starts, horner_made}
use Rattle.ring.proofs.turning.horner.Goals as goal

pub loop-place-init : goal.loop-place-init
loop-place-init g c = mixed_none _ _

pub loop-place-preserved : goal.loop-place-preserved
loop-place-preserved g c = zero_made g.C.Coefficient.ring _ _ _ _ _ refl c.loop-place-test.true c.loop-place.invariant c.zero.ensures

pub loop-k-init : goal.loop-k-init
loop-k-init g c =
    let R = g.C.Coefficient.ring in
    let n = length c.args.out.now in
    let l = length-replicate n R.zero in
    horner_starts R c.args.a.now c.args.b.now _ n c.loop-place.auto.out
    (c.loop-place.invariant ∙ mixed-all c.loop-place.place-index _ _ l (omega (arith, l)))

pub loop-k-preserved : goal.loop-k-preserved
loop-k-preserved g c =
    let R = g.C.Coefficient.ring in
    let a = c.args.a.now in
    let m = length c.loop-k.yielded in
    let t = YieldsList-turn (YieldsList-from_rev_slice a cc) c.loop-k.yielded _ c.loop-k.yielded_by _ _ c.in-Some.k c.in-Some.is c.next.ensures.steps in
    let more : m < length a = omega (arith, t.0, length-reverse a) in
    let x-is : c.in-Some.k.now ≡ get_or a (length a - m - 1) c.in-Some.k.now =
    t.1 ∙ get_or-reverse a m c.in-Some.k.now more ∙ ap (λ j. get_or a j c.in-Some.k.now) (omega arith) in
    horner_made R _ a c.args.b.now c.loop-k.out c.turn.new.row _ (length a - m) _ (omega arith) c.loop-k.auto.out (omega arith) (omega arith)
    (omega arith) c.loop-k.invariant
    c.turn.ensures x-is c.add_multiple.ensures
    ∙ ap (λ j. product R (length c.loop-place.out) (drop j a) c.args.b.now) (omega (arith, length_push c.loop-k.yielded c.in-Some.k))
