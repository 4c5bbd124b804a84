use Rattle.std.proofs.Common.{length, sym, ◌∙◌, ap₂, arith}
use Rattle.std.proofs.lemmas.List.{get_or_default}
use Rattle.std.proofs.lemmas.Iterator.{YieldsList-from_slice, YieldsList-from_take}
use Rattle.std.proofs.lemmas.Iterator.Consumers.{YieldsList-from_enumerate}
use Rattle.ring.proofs.Fronts.{Turn, front_turn, front_end}
use Rattle.ring.proofs.Mixed.{mixed_none}
use Rattle.wrapping.specs.Wraps.{embedded}
use Rattle.wrapping.proofs.Filling.{front_more, over_done}
use Rattle.wrapping.proofs.Coefficients.{length-embedded_row, slice_index_or-embedded_row}
use Rattle.wrapping.proofs.wrap.embed.Goals as goal

pub loop-i-init : goal.loop-i-init
loop-i-init c = mixed_none _ _

pub loop-i-preserved : goal.loop-i-preserved
loop-i-preserved c =
    let w = c.args.width.bits in
    let sigma = c.args.sigma.now in
    let message = c.args.message.now in
    let n = length c.args.out.now in
    let i = c.in-Some.i in
    let t : Turn sigma n (length c.loop-i.yielded) c.in-Some.i c.in-Some.s.now =
    front_turn sigma n (YieldsList-from_take n (YieldsList-from_enumerate (YieldsList-from_slice sigma cc) cc) cc)
    c.loop-i.yielded _ c.loop-i.yielded_by _ _ c.in-Some.i c.in-Some.s c.in-Some.is c.next.ensures.steps in
    front_more _ _ _ sigma n c.loop-i.yielded (i, c.in-Some.s) i c.in-Some.s.now _ 0 t (omega (arith, t.inside, length-embedded_row (length sigma) w sigma message)) c.loop-i.invariant
    (c.embedded.ensures ∙ ap₂ (embedded w) (t.holds ∙ get_or_default sigma i c.in-Some.s.now 0 t.inside) c.position.ensures
    ∙ sym (slice_index_or-embedded_row (length sigma) w sigma message i 0 t.inside))

pub returns : goal.returns
returns c =
    let sigma = c.args.sigma.now in
    let n = length c.args.out.now in
    let turns = front_end sigma n (YieldsList-from_take n (YieldsList-from_enumerate (YieldsList-from_slice sigma cc) cc) cc)
    c.loop-i.yielded _ c.loop-i.yielded_by _ _ c.in-None.is c.next.ensures.steps in
    c.loop-i.invariant ∙ over_done _ _ (length c.loop-i.yielded) (omega (arith, turns, length-embedded_row (length sigma) c.args.width.bits sigma c.args.message.now))
