use Rattle.std.proofs.Common.{length, refl, ◌∙◌, arith}
use lib.ListN.{length-map}
use Rattle.std.proofs.lemmas.Iterator.{YieldsList-from_slice, YieldsList-from_take}
use Rattle.std.proofs.lemmas.Iterator.Consumers.{YieldsList-from_enumerate}
use Rattle.ring.proofs.Fronts.{Turn, front_turn, front_end}
use Rattle.ring.proofs.Mixed.{mixed_none}
use Rattle.wrapping.specs.Trims.{halving}
use Rattle.wrapping.proofs.Filling.{front_mapped, over_done}
use Rattle.wrapping.proofs.trim.halvings.Goals as goal

pub loop-i-init : goal.loop-i-init
loop-i-init c = mixed_none _ _

pub loop-i-preserved : goal.loop-i-preserved
loop-i-preserved c =
    let row = c.args.row.now in
    let n = length c.args.out.now in
    let t : Turn row n (length c.loop-i.yielded) c.in-Some.i c.in-Some.c.now =
    front_turn row n (YieldsList-from_take n (YieldsList-from_enumerate (YieldsList-from_slice row cc) cc) cc)
    c.loop-i.yielded _ c.loop-i.yielded_by _ _ c.in-Some.i c.in-Some.c c.in-Some.is c.next.ensures.steps in
    front_mapped halving _ _ row n c.loop-i.yielded (c.in-Some.i, c.in-Some.c) c.in-Some.i c.in-Some.c.now _ 0 t c.loop-i.invariant refl

pub returns : goal.returns
returns c =
    let row = c.args.row.now in
    let n = length c.args.out.now in
    let turns = front_end row n (YieldsList-from_take n (YieldsList-from_enumerate (YieldsList-from_slice row cc) cc) cc)
    c.loop-i.yielded _ c.loop-i.yielded_by _ _ c.in-None.is c.next.ensures.steps in
    c.loop-i.invariant ∙ over_done _ _ (length c.loop-i.yielded) (omega (arith, turns, length-map row halving))
