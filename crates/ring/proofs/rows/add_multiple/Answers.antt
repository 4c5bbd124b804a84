use Rattle.std.proofs.Common.{◌<◌, length, sym, ap, ◌∙◌, arith, rules}
use Rattle.std.proofs.lemmas.Iterator.{YieldsList-from_slice, YieldsList-from_take}
use Rattle.std.proofs.lemmas.Iterator.Consumers.{YieldsList-from_enumerate}
use Rattle.std.proofs.lemmas.List.{length_push}
use Rattle.ring.specs.Rows.{add_into}
use Rattle.ring.proofs.Fronts.{Turn, front_turn, front_end}
use Rattle.ring.proofs.Mixed.{mixed, mixed_none}
use Rattle.ring.proofs.Steps.{add_made, add_into-done}
use Rattle.ring.proofs.rows.add_multiple.Goals as goal

pub loop-i-init : goal.loop-i-init
loop-i-init g c = mixed_none _ _

pub offset_bounds-target-i : goal.offset_bounds-target-i
offset_bounds-target-i g c =
    let row = c.args.row.now in
    let n = length c.args.target.now in
    let t : Turn row n (length c.loop-i.yielded) c.in-Some.i c.in-Some.x.now =
    front_turn row n (YieldsList-from_take n (YieldsList-from_enumerate (YieldsList-from_slice row cc) cc) cc)
    c.loop-i.yielded _ c.loop-i.yielded_by _ _ c.in-Some.i c.in-Some.x c.in-Some.is c.next.ensures.steps in
    let within : c.in-Some.i < length c.loop-i.target = omega arith in
    search rules

pub offset_bounds-target-i-in-loop-i : goal.offset_bounds-target-i-in-loop-i
offset_bounds-target-i-in-loop-i g c =
    let row = c.args.row.now in
    let n = length c.args.target.now in
    let t : Turn row n (length c.loop-i.yielded) c.in-Some.i c.in-Some.x.now =
    front_turn row n (YieldsList-from_take n (YieldsList-from_enumerate (YieldsList-from_slice row cc) cc) cc)
    c.loop-i.yielded _ c.loop-i.yielded_by _ _ c.in-Some.i c.in-Some.x c.in-Some.is c.next.ensures.steps in
    let within : c.in-Some.i < length c.loop-i.target = omega arith in
    search rules

pub loop-i-preserved : goal.loop-i-preserved
loop-i-preserved g c =
    let R = g.C.Coefficient.ring in
    let old = c.args.target.now in
    let row = c.args.row.now in
    let n = length old in
    let new = add_into R old c.args.k row in
    let t : Turn row n (length c.loop-i.yielded) c.in-Some.i c.in-Some.x.now =
    front_turn row n (YieldsList-from_take n (YieldsList-from_enumerate (YieldsList-from_slice row cc) cc) cc)
    c.loop-i.yielded _ c.loop-i.yielded_by _ _ c.in-Some.i c.in-Some.x c.in-Some.is c.next.ensures.steps in
    add_made R old row c.args.k c.in-Some.i _ _ _ _ _ t.within t.inside (c.loop-i.invariant ∙ ap (λ i. mixed i new old) (sym t.place))
    c.index-target-i.is t.holds c.times.ensures c.plus.ensures
    ∙ ap (λ i. mixed i new old) (omega (arith, t.place, length_push c.loop-i.yielded (c.in-Some.i, c.in-Some.x)))

pub returns : goal.returns
returns g c =
    let old = c.args.target.now in
    let row = c.args.row.now in
    let n = length old in
    let turns = front_end row n (YieldsList-from_take n (YieldsList-from_enumerate (YieldsList-from_slice row cc) cc) cc)
    c.loop-i.yielded _ c.loop-i.yielded_by _ _ c.in-None.is c.next.ensures.steps in
    c.loop-i.invariant ∙ add_into-done g.C.Coefficient.ring old c.args.k row (length c.loop-i.yielded) (omega (arith, turns))
