use Rattle.std.proofs.Common.{◌≡◌, Some, None, sym, ap, ◌∙◌, ap₂}
use Rattle.inversion.specs.Leading.{leading}
use Rattle.inversion.specs.Euclid.{remainder, remainder_at, cofactor, cofactor_at}
use Rattle.inversion.proofs.Highest.{leading-some}
use Rattle.inversion.proofs.Remainders.{remainder_is, cofactor_is}
use Rattle.inversion.proofs.division.divide.Goals as goal

pub returns-in_default : goal.returns-in_default
unfolding remainder cofactor
returns-in_default c =
    let a = c.args.upper.now in
    let b = c.args.lower.now in
    let e : None ≡ leading a = sym c.in_default.is ∙ c.leading.ensures.is in
    record {
      row = ap (λ o. remainder_at a b o (leading b)) e;
      beside = ap (λ o. cofactor_at a c.args.upper_cofactor.now b c.args.lower_cofactor.now o (leading b)) e;
    }

pub returns-in_default-leading : goal.returns-in_default-leading
unfolding remainder cofactor
returns-in_default-leading c =
    let a = c.args.upper.now in
    let b = c.args.lower.now in
    let p : Some c.in-Some.top ≡ leading a = sym c.in-Some.is ∙ c.leading.ensures.is in
    let e : None ≡ leading b = sym c.in_default-leading.is ∙ c.leading-2.ensures.is in
    record {
      row = ap₂ (remainder_at a b) p e;
      beside = ap₂ (cofactor_at a c.args.upper_cofactor.now b c.args.lower_cofactor.now) p e;
    }

pub returns-in-Some-inverse_at : goal.returns-in-Some-inverse_at
returns-in-Some-inverse_at c =
    let a = c.args.upper.now in
    let b = c.args.lower.now in
    let p = c.in-Some.top in
    let q = c.in-Some-leading.place in
    let pa : leading a ≡ Some p = sym c.leading.ensures.is ∙ c.in-Some.is in
    let qb : leading b ≡ Some q = sym c.leading-2.ensures.is ∙ c.in-Some-leading.is in
    let leads = leading-some b q qb in
    let inverts = c.in-Some-inverse_at.ensures in
    record {
      row = c.reduce.ensures.row ∙ sym (remainder_is a b p q c.in-Some-inverse_at.scale pa qb leads.1 inverts);
      beside = c.reduce.ensures.beside
          ∙ sym (cofactor_is a b p q c.in-Some-inverse_at.scale pa qb leads.1 inverts c.args.upper_cofactor.now c.args.lower_cofactor.now);
    }
