use Rattle.std.proofs.Common.{◌≡◌, ℕ, false, eqb, replicate, Some, None, Option, MatchOption, sym, ap, ◌∙◌, subst, ap₂}
use mathlib.Core.Bool.{not}
use Rattle.std.specs.Option.{option_eq}
use Rattle.std.proofs.lemmas.Bool.{true≢false, not-false, eqb-true}
use Rattle.ring.specs.Rows.{add_into}
use Rattle.inversion.specs.Places.{at}
use Rattle.inversion.specs.Leading.{F, field, leading}
use Rattle.inversion.specs.Euclid.{reciprocal}
use Rattle.inversion.proofs.Highest.{leading-some}
use Rattle.inversion.proofs.Remainders.{inverse-only, reciprocal-inverts}
use Rattle.inversion.proofs.euclid.finish.Goals as goal

at_zero : (o : Option ℕ) → not (option_eq eqb o (Some 0)) ≡ false → o ≡ Some 0
at_zero None h = absurd (true≢false h)
at_zero (Some p) h = ap Some (eqb-true p 0 (not-false (eqb p 0) h))

pub returns : goal.returns
returns c =
    let row = c.args.last.now in
    let x = at field row 0 in
    let scale = c.in_ok-scale.scale in
    let e : leading row ≡ Some 0 = sym c.leading.ensures.is ∙ at_zero c.leading.result (sym c.ne.ensures ∙ c.if-ne.false) in
    let inverts : field.mul x scale ≡ field.one =
    subst (λ (o : Option F). MatchOption o (x ≡ field.zero) (λ y. field.mul x y ≡ field.one)) c.in_ok-scale.ensures.ok_part c.inverse_at.ensures in
    let scale-is : scale ≡ reciprocal x = inverse-only field x scale (reciprocal x) inverts (reciprocal-inverts x (leading-some row 0 e).1.some) in
    record {
      found = (
        e,
        c.add_multiple.ensures
            ∙ ap₂ (λ w k. add_into field w k c.args.cofactor.now) (c.fill.ensures.after (λ y q. q) ∙ ap (replicate _) c.zero.ensures) scale-is,
      );
      refuses = tt;
    }
