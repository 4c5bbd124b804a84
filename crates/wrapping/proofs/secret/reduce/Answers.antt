use Rattle.std.proofs.Common.{◌+◌, length, pos, ap, ◌∙◌, arith, w16, SFits, rules}
use lib.ListN.{length-map}
use Rattle.std.proofs.lemmas.Int.{ints}
use Rattle.std.proofs.lemmas.Iterator.{YieldsList-from_slice, YieldsList-from_take}
use Rattle.std.proofs.lemmas.Iterator.Consumers.{YieldsList-from_enumerate}
use Rattle.ring.proofs.Fronts.{Turn, front_turn, front_end}
use Rattle.ring.proofs.Mixed.{mixed_none}
use Rattle.ring.specs.Wholes.{residue}
use Rattle.wrapping.proofs.Filling.{front_mapped, over_done}
use Rattle.wrapping.proofs.secret.reduce.Goals as goal

pub loop-i-init : goal.loop-i-init
loop-i-init g c = mixed_none _ _

pub loop-i-preserved : goal.loop-i-preserved
loop-i-preserved g c =
    let row = c.args.row.now in
    let small : SFits w16 c.in-Some.x = search rules in
    let n = length c.args.out.now in
    let p = c.in-Some.field-0-1 in
    let t : Turn row n (length c.loop-i.yielded) c.in-Some.i p.now =
    front_turn row n (YieldsList-from_take n (YieldsList-from_enumerate (YieldsList-from_slice row cc) cc) cc)
    c.loop-i.yielded _ c.loop-i.yielded_by _ _ c.in-Some.i p c.in-Some.is c.next.ensures.steps in
    front_mapped (residue (g.row.LAST + 1)) _ _ row n c.loop-i.yielded (c.in-Some.i, p) c.in-Some.i p.now _ (pos 0) t c.loop-i.invariant
    (c.residue.ensures ∙ ap (residue (g.row.LAST + 1)) (omega (arith, ints, c.in-Some.x-is)))

pub returns : goal.returns
returns g c =
    let row = c.args.row.now in
    let n = length c.args.out.now in
    let turns = front_end row n (YieldsList-from_take n (YieldsList-from_enumerate (YieldsList-from_slice row cc) cc) cc)
    c.loop-i.yielded _ c.loop-i.yielded_by _ _ c.in-None.is c.next.ensures.steps in
    c.loop-i.invariant ∙ over_done _ _ (length c.loop-i.yielded) (omega (arith, turns, length-map row (residue (g.row.LAST + 1))))
