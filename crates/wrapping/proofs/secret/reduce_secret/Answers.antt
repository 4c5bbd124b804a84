use Rattle.std.proofs.Common.{◌≡◌, ◌+◌, length, get_or, pos, sym, ap, ◌∙◌, arith, w16, w32, SFits, to_z, of_z, rules}
use lib.ListN.{length-map, get_or-map}
use Rattle.std.proofs.lemmas.Int.{to_z-of_z}
use Rattle.std.proofs.lemmas.List.{get_or_default}
use Rattle.std.proofs.lemmas.Iterator.{YieldsList-from_slice, YieldsList-from_take}
use Rattle.std.proofs.lemmas.Iterator.Consumers.{YieldsList-from_enumerate}
use Rattle.ring.proofs.Fronts.{Turn, front_turn, front_end}
use Rattle.ring.proofs.Mixed.{mixed_none}
use Rattle.ring.specs.Wholes.{residue}
use Rattle.wrapping.specs.Secrets.{secret, secret_at}
use Rattle.wrapping.proofs.Filling.{front_more, over_done}
use Rattle.wrapping.proofs.Coefficients.{slice_index_or-secret}
use Rattle.wrapping.proofs.SecretLaws.{length-secret}
use Rattle.wrapping.proofs.secret.reduce_secret.Goals as goal

pub loop-i-init : goal.loop-i-init
loop-i-init g c = mixed_none _ _

pub loop-i-preserved : goal.loop-i-preserved
loop-i-preserved g c =
    let f = c.args.f.now in
    let small : SFits w16 c.in-Some.x = search rules in
    let wide : SFits w32 c.coefficient.result = search rules in
    let n = length c.args.out.now in
    let i = c.in-Some.i in
    let p = c.in-Some.field-0-1 in
    let m = g.row.LAST + 1 in
    let t : Turn f n (length c.loop-i.yielded) i p.now =
    front_turn f n (YieldsList-from_take n (YieldsList-from_enumerate (YieldsList-from_slice f cc) cc) cc)
    c.loop-i.yielded _ c.loop-i.yielded_by _ _ i p c.in-Some.is c.next.ensures.steps in
    let same : to_z w32 (of_z w32 c.coefficient.result) ≡ get_or (secret f) i (pos 0) =
    to_z-of_z w32 c.coefficient.result wide ∙ c.coefficient.ensures
    ∙ ap (λ y. secret_at i (to_z w16 (of_z w16 y))) c.in-Some.x-is
    ∙ ap (secret_at i) (to_z-of_z w16 c.in-Some.x small ∙ sym c.in-Some.x-is ∙ t.holds ∙ get_or_default f i p.now (pos 0) t.inside)
    ∙ sym (slice_index_or-secret f i (pos 0) (pos 0) t.inside) in
    front_more _ _ _ f n c.loop-i.yielded (i, p) i p.now _ (residue m (pos 0)) t
    (omega (arith, t.inside, length-map (secret f) (residue m), length-secret f)) c.loop-i.invariant
    (c.residue.ensures ∙ ap (residue m) same ∙ sym (get_or-map (residue m) (secret f) i (pos 0)))

pub returns : goal.returns
returns g c =
    let f = c.args.f.now in
    let n = length c.args.out.now in
    let turns = front_end f n (YieldsList-from_take n (YieldsList-from_enumerate (YieldsList-from_slice f cc) cc) cc)
    c.loop-i.yielded _ c.loop-i.yielded_by _ _ c.in-None.is c.next.ensures.steps in
    c.loop-i.invariant ∙ over_done _ _ (length c.loop-i.yielded) (omega (arith, turns, length-map (secret f) (residue (g.row.LAST + 1)), length-secret f))
