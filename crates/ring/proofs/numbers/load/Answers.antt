use Rattle.std.proofs.Common.{◌∙◌, arith}
use lib.ListN.{length-map}
use Rattle.ring.proofs.Mixed.{mixed_none, mixed-all}
use Rattle.ring.specs.Residues.{reduced}
use Rattle.ring.proofs.Fills.{mapped_put}
use Rattle.ring.proofs.numbers.load.Goals as goal

pub loop-i-init : goal.loop-i-init
loop-i-init g c = mixed_none _ _

pub loop-i-preserved : goal.loop-i-preserved
loop-i-preserved g c = mapped_put (reduced g.row.LAST) c.args.source.now _ _ c.loop-i.i 0 _ c.loop-i-test.true c.loop-i.invariant c.of.ensures

pub returns : goal.returns
returns g c =
    let long = length-map c.args.source.now _ in
    c.loop-i.invariant ∙ mixed-all _ _ _ (long ∙ c.requires) (omega (arith, long))
