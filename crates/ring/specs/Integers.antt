-- The ring of the whole numbers. Assumes nothing.
use Rattle.std.specs.Prelude.{◌≡◌, ℕ, zero, suc, ℤ, pos, negsuc, ◌+ℤ◌, ◌*ℤ◌, neg_ℤ}
use Rattle.std.proofs.Common.{sym, ap, ap₂, ◌∙◌}
use Rattle.std.proofs.Math.IntN.{suc_ℤ, pred_ℤ, +ℤ_assoc, +ℤ_comm, +ℤ_idr, +ℤ_invr, neg_ℤ-+ℤ, zero-*ℤ, suc_ℤ-*ℤ, pred_ℤ-*ℤ, *ℤ_comm, *ℤ-one, one}
use Rattle.ring.specs.Ring.{CommRing}

-- what holds of 0, and goes up and down by one, holds of every whole number
module _ (P : ℤ → Type 0) (base : P (pos 0)) (up : (k : ℤ) → P k → P (suc_ℤ k)) (down : (k : ℤ) → P k → P (pred_ℤ k)) where
  rise : (n : ℕ) → P (pos n)
  rise zero = base
  rise (suc n) = up (pos n) (rise n)

  fall : (n : ℕ) → P (negsuc n)
  fall zero = down (pos 0) base
  fall (suc n) = down (negsuc n) (fall n)

  pub steps : (k : ℤ) → P k
  steps (pos n) = rise n
  steps (negsuc n) = fall n

left_comm : (a b c : ℤ) → a +ℤ (b +ℤ c) ≡ b +ℤ (a +ℤ c)
left_comm a b c = sym (+ℤ_assoc a b c) ∙ ap (λ w. w +ℤ c) (+ℤ_comm a b) ∙ +ℤ_assoc b a c

medial : (a b c d : ℤ) → (a +ℤ b) +ℤ (c +ℤ d) ≡ (a +ℤ c) +ℤ (b +ℤ d)
medial a b c d = +ℤ_assoc a b (c +ℤ d) ∙ ap (λ w. a +ℤ w) (left_comm b c d) ∙ sym (+ℤ_assoc a c (b +ℤ d))

pub *ℤ-+ℤ : (m a b : ℤ) → m *ℤ (a +ℤ b) ≡ m *ℤ a +ℤ m *ℤ b
*ℤ-+ℤ m a b =
    steps (λ k. k *ℤ (a +ℤ b) ≡ k *ℤ a +ℤ k *ℤ b)
    (zero-*ℤ (a +ℤ b) ∙ sym (ap₂ ◌+ℤ◌ (zero-*ℤ a) (zero-*ℤ b)))
    (λ k h. suc_ℤ-*ℤ k (a +ℤ b) ∙ ap (λ w. w +ℤ (a +ℤ b)) h ∙ medial (k *ℤ a) (k *ℤ b) a b ∙ sym (ap₂ ◌+ℤ◌ (suc_ℤ-*ℤ k a) (suc_ℤ-*ℤ k b)))
    (λ k h. pred_ℤ-*ℤ k (a +ℤ b) ∙ ap₂ ◌+ℤ◌ h (neg_ℤ-+ℤ a b) ∙ medial (k *ℤ a) (k *ℤ b) (neg_ℤ a) (neg_ℤ b) ∙ sym (ap₂ ◌+ℤ◌ (pred_ℤ-*ℤ k a) (pred_ℤ-*ℤ k b)))
    m

pub +ℤ-*ℤ : (a b m : ℤ) → (a +ℤ b) *ℤ m ≡ a *ℤ m +ℤ b *ℤ m
+ℤ-*ℤ a b m = *ℤ_comm (a +ℤ b) m ∙ *ℤ-+ℤ m a b ∙ ap₂ ◌+ℤ◌ (*ℤ_comm m a) (*ℤ_comm m b)

neg-*ℤ : (a b : ℤ) → neg_ℤ a *ℤ b ≡ neg_ℤ (a *ℤ b)
neg-*ℤ a b =
    let e : a *ℤ b +ℤ neg_ℤ a *ℤ b ≡ pos 0 = sym (+ℤ-*ℤ a (neg_ℤ a) b) ∙ ap (λ w. w *ℤ b) (+ℤ_invr a) ∙ zero-*ℤ b in
    sym (+ℤ_idr (neg_ℤ a *ℤ b)) ∙ ap (λ w. neg_ℤ a *ℤ b +ℤ w) (sym (+ℤ_invr (a *ℤ b))) ∙ sym (+ℤ_assoc (neg_ℤ a *ℤ b) (a *ℤ b) (neg_ℤ (a *ℤ b)))
    ∙ ap (λ w. w +ℤ neg_ℤ (a *ℤ b)) (+ℤ_comm (neg_ℤ a *ℤ b) (a *ℤ b) ∙ e) ∙ +ℤ_comm (pos 0) (neg_ℤ (a *ℤ b)) ∙ +ℤ_idr (neg_ℤ (a *ℤ b))

pub *ℤ-assoc : (m a b : ℤ) → (m *ℤ a) *ℤ b ≡ m *ℤ (a *ℤ b)
*ℤ-assoc m a b =
    steps (λ k. (k *ℤ a) *ℤ b ≡ k *ℤ (a *ℤ b))
    (ap (λ w. w *ℤ b) (zero-*ℤ a) ∙ zero-*ℤ b ∙ sym (zero-*ℤ (a *ℤ b)))
    (λ k h. ap (λ w. w *ℤ b) (suc_ℤ-*ℤ k a) ∙ +ℤ-*ℤ (k *ℤ a) a b ∙ ap (λ w. w +ℤ a *ℤ b) h ∙ sym (suc_ℤ-*ℤ k (a *ℤ b)))
    (λ k h. ap (λ w. w *ℤ b) (pred_ℤ-*ℤ k a) ∙ +ℤ-*ℤ (k *ℤ a) (neg_ℤ a) b ∙ ap₂ ◌+ℤ◌ h (neg-*ℤ a b) ∙ sym (pred_ℤ-*ℤ k (a *ℤ b)))
    m

pub times-one : (m : ℤ) → m *ℤ pos 1 ≡ m
unfolding one
times-one m = *ℤ-one m

abbrev pub integers : CommRing ℤ
integers = record {
  zero = pos 0;
  one = pos 1;
  add = ◌+ℤ◌;
  neg = neg_ℤ;
  mul = ◌*ℤ◌;
  add_comm = +ℤ_comm;
  add_assoc = +ℤ_assoc;
  add-zero = +ℤ_idr;
  add_neg = +ℤ_invr;
  mul_comm = *ℤ_comm;
  mul_assoc = *ℤ-assoc;
  mul-one = times-one;
  mul-add = *ℤ-+ℤ;
}
