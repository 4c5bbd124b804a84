-- The image of the whole numbers in a commutative ring is a map of rings.
use Rattle.std.proofs.Common.{◌≡◌, zero, suc, ℤ, pos, negsuc, ◌+ℤ◌, ◌*ℤ◌, neg_ℤ, sym, refl, ap, ◌∙◌, ap₂}
use lib.IntN.{suc_ℤ, pred_ℤ, +ℤ_idl, +ℤ_invr, suc_ℤ-+ℤ, pred_ℤ-+ℤ, suc_ℤ-*ℤ, pred_ℤ-*ℤ, zero-*ℤ}
use Rattle.ring.specs.Ring.{CommRing, RingMap}
use Rattle.ring.specs.Integers.{steps, integers}
use Rattle.ring.specs.Images.{count, image}
use Rattle.ring.proofs.Scalars as s

module _ {C : Type 0} (R : CommRing C) where
  pub image-zero : image R (pos 0) ≡ R.zero
  unfolding image count
  image-zero = refl

  -- (x + y) - y
  cancel : (x y : C) → R.add (R.add x y) (R.neg y) ≡ x
  cancel x y = R.add_assoc x y _ ∙ ap (R.add x) (R.add_neg y) ∙ R.add-zero x

  cancel' : (x y : C) → R.add (R.add x (R.neg y)) y ≡ x
  cancel' x y = R.add_assoc x _ y ∙ ap (R.add x) (s.neg-add_self R y) ∙ R.add-zero x

  image-suc : (k : ℤ) → image R (suc_ℤ k) ≡ R.add (image R k) R.one
  unfolding image count
  image-suc (pos n) = refl
  image-suc (negsuc zero) = sym (ap (λ w. R.add (R.neg w) R.one) (s.zero-add R R.one) ∙ s.neg-add_self R R.one)
  image-suc (negsuc (suc n)) = sym (ap (λ w. R.add w R.one) (s.neg-add R (count R (suc n)) R.one) ∙ cancel' _ _)

  image_pred : (k : ℤ) → image R (pred_ℤ k) ≡ R.add (image R k) (R.neg R.one)
  unfolding image count
  image_pred (pos zero) = ap R.neg (s.zero-add R R.one) ∙ sym (s.zero-add R _)
  image_pred (pos (suc n)) = sym (cancel (count R n) R.one)
  image_pred (negsuc n) = s.neg-add R (count R (suc n)) R.one

  pub image-add : (j k : ℤ) → image R (j +ℤ k) ≡ R.add (image R j) (image R k)
  image-add j k =
      steps (λ i. image R (i +ℤ k) ≡ R.add (image R i) (image R k))
      (ap (image R) (+ℤ_idl k) ∙ sym (ap (λ w. R.add w (image R k)) image-zero ∙ s.zero-add R (image R k)))
      (λ i h. ap (image R) (suc_ℤ-+ℤ i k) ∙ image-suc (i +ℤ k) ∙ ap (λ w. R.add w R.one) h ∙ swap (image R i) (image R k) R.one ∙ sym (ap (λ w. R.add w (image R k)) (image-suc i)))
      (λ i h. ap (image R) (pred_ℤ-+ℤ i k) ∙ image_pred (i +ℤ k) ∙ ap (λ w. R.add w (R.neg R.one)) h ∙ swap (image R i) (image R k) (R.neg R.one) ∙ sym (ap (λ w. R.add w (image R k)) (image_pred i)))
      j
    where
      swap : (x y z : C) → R.add (R.add x y) z ≡ R.add (R.add x z) y
      swap x y z = R.add_assoc x y z ∙ ap (R.add x) (R.add_comm y z) ∙ sym (R.add_assoc x z y)

  pub image-neg : (k : ℤ) → image R (neg_ℤ k) ≡ R.neg (image R k)
  image-neg k = s.neg_unique R (image R k) (image R (neg_ℤ k)) (sym (image-add k (neg_ℤ k)) ∙ ap (image R) (+ℤ_invr k) ∙ image-zero)

  pub image-mul : (j k : ℤ) → image R (j *ℤ k) ≡ R.mul (image R j) (image R k)
  image-mul j k =
      steps (λ i. image R (i *ℤ k) ≡ R.mul (image R i) (image R k))
      (ap (image R) (zero-*ℤ k) ∙ image-zero ∙ sym (ap (λ w. R.mul w (image R k)) image-zero ∙ s.zero-mul R (image R k)))
      (λ i h. ap (image R) (suc_ℤ-*ℤ i k) ∙ image-add (i *ℤ k) k ∙ ap₂ R.add h (sym (s.one-mul R (image R k))) ∙ sym (ap (λ w. R.mul w (image R k)) (image-suc i) ∙ s.add-mul R (image R i) R.one (image R k)))
      (λ i h. ap (image R) (pred_ℤ-*ℤ i k) ∙ image-add (i *ℤ k) (neg_ℤ k) ∙ ap₂ R.add h (image-neg k ∙ sym (minus_one (image R k)))
      ∙ sym (ap (λ w. R.mul w (image R k)) (image_pred i) ∙ s.add-mul R (image R i) (R.neg R.one) (image R k)))
      j
    where
      minus_one : (x : C) → R.mul (R.neg R.one) x ≡ R.neg x
      minus_one x = R.mul_comm _ x ∙ s.mul-neg R x R.one ∙ ap R.neg (R.mul-one x)

  image-one : image R (pos 1) ≡ R.one
  unfolding image count
  image-one = s.zero-add R R.one

  pub image-map : RingMap integers R (image R)
  image-map = record { zero = image-zero; one = image-one; add = image-add; neg = image-neg; mul = image-mul }
