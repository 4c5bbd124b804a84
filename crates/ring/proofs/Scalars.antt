-- What the laws of a commutative ring give.
use Rattle.std.proofs.Common.{◌≡◌, sym, ap, ◌∙◌}
use Rattle.ring.specs.Ring.{CommRing}

module _ {C : Type 0} (R : CommRing C) where
  pub zero-add : (x : C) → R.add R.zero x ≡ x
  zero-add x = R.add_comm _ _ ∙ R.add-zero x

  pub add_left_comm : (x y z : C) → R.add x (R.add y z) ≡ R.add y (R.add x z)
  add_left_comm x y z = sym (R.add_assoc x y z) ∙ ap (λ w. R.add w z) (R.add_comm x y) ∙ R.add_assoc y x z

  pub mul_left_comm : (x y z : C) → R.mul x (R.mul y z) ≡ R.mul y (R.mul x z)
  mul_left_comm x y z = sym (R.mul_assoc x y z) ∙ ap (λ w. R.mul w z) (R.mul_comm x y) ∙ R.mul_assoc y x z

  pub add-mul : (x y z : C) → R.mul (R.add x y) z ≡ R.add (R.mul x z) (R.mul y z)
  add-mul x y z = simp (R.mul_comm, R.mul-add)

  pub medial : (a b c d : C) → R.add (R.add a b) (R.add c d) ≡ R.add (R.add a c) (R.add b d)
  medial a b c d = simp (R.add_assoc, add_left_comm)

  pub one-mul : (x : C) → R.mul R.one x ≡ x
  one-mul x = R.mul_comm _ _ ∙ R.mul-one x

  pub neg-add_self : (x : C) → R.add (R.neg x) x ≡ R.zero
  neg-add_self x = R.add_comm _ _ ∙ R.add_neg x

  -- x + y = 0 makes y the negative of x
  pub neg_unique : (x y : C) → R.add x y ≡ R.zero → y ≡ R.neg x
  neg_unique x y h =
      sym (zero-add y) ∙ ap (λ w. R.add w y) (sym (neg-add_self x)) ∙ R.add_assoc _ _ _ ∙ ap (R.add (R.neg x)) h ∙ R.add-zero _

  -- x + x = x makes x zero
  pub idem_zero : (x : C) → R.add x x ≡ x → x ≡ R.zero
  idem_zero x h =
      sym (zero-add x) ∙ ap (λ w. R.add w x) (sym (neg-add_self x)) ∙ R.add_assoc _ _ _ ∙ ap (R.add (R.neg x)) h ∙ neg-add_self x

  pub mul-zero : (x : C) → R.mul x R.zero ≡ R.zero
  mul-zero x = idem_zero _ (sym (R.mul-add x _ _) ∙ ap (R.mul x) (R.add-zero _))

  pub zero-mul : (x : C) → R.mul R.zero x ≡ R.zero
  zero-mul x = R.mul_comm _ _ ∙ mul-zero x

  pub neg-zero : R.neg R.zero ≡ R.zero
  neg-zero = sym (neg_unique _ _ (R.add-zero _))

  pub neg-add : (x y : C) → R.neg (R.add x y) ≡ R.add (R.neg x) (R.neg y)
  neg-add x y = sym (neg_unique _ _ (medial _ _ _ _ ∙ simp (R.add_neg, R.add-zero)))

  pub mul-neg : (x y : C) → R.mul x (R.neg y) ≡ R.neg (R.mul x y)
  mul-neg x y = neg_unique _ _ (sym (R.mul-add _ _ _) ∙ ap (R.mul x) (R.add_neg y) ∙ mul-zero x)
