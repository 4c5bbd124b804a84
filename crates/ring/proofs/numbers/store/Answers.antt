use Rattle.std.proofs.Common.{ap, ◌∙◌, arith}
use lib.ListN.{length-map}
use Rattle.ring.proofs.Mixed.{mixed_none, mixed-all}
use Rattle.ring.proofs.Fills.{mapped_put}
use Rattle.ring.proofs.numbers.store.Goals as goal

pub loop-i-init : goal.loop-i-init
loop-i-init g c = mixed_none _ _

pub loop-i-preserved : goal.loop-i-preserved
loop-i-preserved g c = mapped_put (λ x. x.value) c.args.source.now _ _ c.loop-i.i c.index-source-i.result _ c.loop-i-test.true c.loop-i.invariant (ap (λ x. x.value) c.index-source-i.is)

pub returns : goal.returns
returns g c =
    let long = length-map c.args.source.now _ in
    c.loop-i.invariant ∙ mixed-all _ _ _ (long ∙ c.requires) (omega (arith, long))
