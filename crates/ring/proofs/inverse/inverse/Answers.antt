use Rattle.std.proofs.Common.{◌*◌, ◌%◌, sym, ap, ◌∙◌}
use Rattle.ring.specs.Residues.{reduced, residue_eq}
use Rattle.ring.proofs.Inverses.{power_inverts}
use Rattle.std.proofs.lemmas.Bool.{eqb-true, eq-eqb, true≢false}
use Rattle.ring.proofs.inverse.inverse.Goals as goal

pub returns-then-eq : goal.returns-then-eq
returns-then-eq c = residue_eq c.args.x c.of.result (eqb-true _ _ (sym c.eq.ensures ∙ c.if-eq.true)) ∙ c.of.ensures

pub returns : goal.returns
returns c =
    let x = c.args.x.value in
    let z = ap (λ y. y.value) c.of.ensures in
    residue_eq (reduced 3456 (x * c.power.result.value)) (reduced 3456 1)
    (ap (λ w. x * w % 3457) c.power.ensures
    ∙ power_inverts x c.args.x.ok
    (λ e. true≢false (sym (eq-eqb _ _ (e ∙ sym z)) ∙ sym c.eq.ensures ∙ c.if-eq.false)))
