-- The residues modulo 3457 are a field, and the remainder sequence over them.
use Rattle.std.proofs.Common.{◌≡◌, ℕ, suc, ◌-◌, List, Some, sym, ap, ◌∙◌, ap₂, arith}
use Rattle.ring.specs.Ring.{CommRing}
use Rattle.ring.specs.Modular.{mul_mod_mod}
use Rattle.ring.specs.Residues.{residue_eq}
use Rattle.ring.specs.Powers.{climb, exponent}
use Rattle.ring.proofs.Scalars as scalar
use Rattle.ring.proofs.Inverses.{power_inverts}
use Rattle.inversion.specs.Places.{at, Leads}
use Rattle.inversion.specs.Leading.{F, field, leading}
use Rattle.inversion.specs.Division.{divided, along}
use Rattle.inversion.specs.Euclid.{reciprocal, remainder, remainder_at, cofactor, cofactor_at}
use Rattle.inversion.proofs.Highest.{zero_of}

module _ {C : Type 0} (R : CommRing C) where
  -- two inverses of one coefficient are equal
  pub inverse-only : (x c d : C) → R.mul x c ≡ R.one → R.mul x d ≡ R.one → c ≡ d
  inverse-only x c d h g =
      sym (R.mul-one c) ∙ ap (R.mul c) (sym g) ∙ scalar.mul_left_comm R c x d ∙ ap (R.mul x) (R.mul_comm c d)
      ∙ scalar.mul_left_comm R x d c ∙ ap (R.mul d) h ∙ R.mul-one d

  -- what has an inverse divides no zero
  pub no_zero-divisor : (x y z : C) → R.mul x z ≡ R.one → R.mul x y ≡ R.zero → y ≡ R.zero
  no_zero-divisor x y z h g =
      sym (R.mul-one y) ∙ ap (R.mul y) (sym h) ∙ scalar.mul_left_comm R y x z ∙ ap (R.mul x) (R.mul_comm y z) ∙ scalar.mul_left_comm R x z y
      ∙ ap (R.mul z) g ∙ scalar.mul-zero R z

pub reciprocal-inverts : (x : F) → (x ≡ field.zero → ⊥) → field.mul x (reciprocal x) ≡ field.one
unfolding reciprocal
reciprocal-inverts x h = residue_eq (field.mul x (reciprocal x)) field.one
    (mul_mod_mod x.value (climb x.value 1 exponent) 3457 ∙ power_inverts x.value x.ok (λ e. h (zero_of x e)))

pub domain : (x y : F) → (x ≡ field.zero → ⊥) → field.mul x y ≡ field.zero → y ≡ field.zero
domain x y h = no_zero-divisor field x y (reciprocal x) (reciprocal-inverts x h)

pub one-some : field.one ≡ field.zero → ⊥
one-some e = let v : ◌≡◌ {A = ℕ} 1 0 = ap (λ x. x.value) e in omega arith

-- long division with any inverse of the leading coefficient gives the remainder
module _ (a b : List F) (p q : ℕ) (c : F) (pa : leading a ≡ Some p) (qb : leading b ≡ Some q) (leads : Leads field q b) (inverts : field.mul (at field b q) c ≡ field.one) where
  same : c ≡ reciprocal (at field b q)
  same = inverse-only field (at field b q) c (reciprocal (at field b q)) inverts (reciprocal-inverts (at field b q) leads.some)

  pub remainder_is : remainder a b ≡ divided field a b c q (suc p - q)
  unfolding remainder
  remainder_is = ap₂ (remainder_at a b) pa qb ∙ ap (λ k. divided field a b k q (suc p - q)) (sym same)

  pub cofactor_is : (u v : List F) → cofactor a u b v ≡ along field a u b v c q (suc p - q)
  unfolding cofactor
  cofactor_is u v = ap₂ (cofactor_at a u b v) pa qb ∙ ap (λ k. along field a u b v k q (suc p - q)) (sym same)
