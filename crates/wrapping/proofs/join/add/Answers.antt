use Rattle.std.proofs.Common.{◌+◌, ◌%◌, ◌^◌, length, sym, ap, ◌∙◌, ap₂, arith}
use Rattle.std.proofs.lemmas.List.{get_or_default}
use Rattle.std.proofs.lemmas.Iterator.{YieldsList-from_slice, YieldsList-from_take}
use Rattle.std.proofs.lemmas.Iterator.Consumers.{YieldsList-from_enumerate}
use Rattle.ring.proofs.Fronts.{Turn, front_turn, front_end}
use Rattle.ring.proofs.Mixed.{mixed_none, mixed}
use Rattle.wrapping.specs.Joins.{joined}
use Rattle.wrapping.proofs.Filling.{front_more, unwritten, written_all}
use Rattle.wrapping.proofs.Coefficients.{length-joined, slice_index_or-joined, drop-joined}
use Rattle.wrapping.proofs.join.add.Goals as goal

pub loop-i-init : goal.loop-i-init
loop-i-init c = mixed_none _ _

pub loop-i-preserved : goal.loop-i-preserved
loop-i-preserved c =
    let w = c.args.width.bits in
    let row = c.args.row.now in
    let other = c.args.other.now in
    let n = length row in
    let i = c.in-Some.i in
    let t : Turn other n (length c.loop-i.yielded) c.in-Some.i c.in-Some.x.now =
    front_turn other n (YieldsList-from_take n (YieldsList-from_enumerate (YieldsList-from_slice other cc) cc) cc)
    c.loop-i.yielded _ c.loop-i.yielded_by _ _ c.in-Some.i c.in-Some.x c.in-Some.is c.next.ensures.steps in
    front_more (joined w row other) row _ other n c.loop-i.yielded (i, c.in-Some.x) i c.in-Some.x.now _ 0 t (omega (arith, t.within, length-joined w row other)) c.loop-i.invariant
    (c.sum.ensures
    ∙ ap₂ (λ x y. (x + y) % 2 ^ w)
    (unwritten (joined w row other) row _ i 0 (c.loop-i.invariant ∙ ap (λ k. mixed k (joined w row other) row) (sym t.place)))
    (t.holds ∙ get_or_default other i c.in-Some.x.now 0 t.inside)
    ∙ sym (slice_index_or-joined w row other i 0 t.within t.inside))

pub returns : goal.returns
returns c =
    let w = c.args.width.bits in
    let row = c.args.row.now in
    let other = c.args.other.now in
    let n = length row in
    let turns = front_end other n (YieldsList-from_take n (YieldsList-from_enumerate (YieldsList-from_slice other cc) cc) cc)
    c.loop-i.yielded _ c.loop-i.yielded_by _ _ c.in-None.is c.next.ensures.steps in
    c.loop-i.invariant
    ∙ written_all _ row (length c.loop-i.yielded) (length-joined w row other) (drop-joined w row other (length c.loop-i.yielded) (omega (arith, turns)))
