use Rattle.std.proofs.Common.{ap, ◌∙◌, arith}
use lib.ListN.{length-map}
use Rattle.ring.proofs.Mixed.{mixed_none, mixed-all}
use Rattle.ring.proofs.Fills.{mapped_put}
use Rattle.wrapping.specs.Trims.{halved}
use Rattle.wrapping.proofs.Filling.{unwritten}
use Rattle.wrapping.proofs.trim.halve.Goals as goal

pub loop-c-init : goal.loop-c-init
loop-c-init c = mixed_none _ _

pub loop-c-preserved : goal.loop-c-preserved
loop-c-preserved c =
    let half = halved c.args.width.bits in
    let row = c.args.row.now in
    mapped_put half row row _ c.loop-c.c-index 0 _ c.loop-c-test.true c.loop-c.invariant
    (c.halved.ensures ∙ ap half (unwritten _ row _ c.loop-c.c-index 0 c.loop-c.invariant))

pub returns : goal.returns
returns c =
    let long = length-map c.args.row.now _ in
    c.loop-c.invariant ∙ mixed-all _ _ _ long (omega (arith, long))
