-- Rows over a commutative ring: what their sums, multiples, turns and products keep.
use Rattle.std.proofs.Common.{◌≡◌, ℕ, zero, suc, List, [], ◌∷◌, length, sym, refl, ap, ◌∙◌, ap₂, arith}
use Rattle.ring.specs.Ring.{CommRing}
use Rattle.ring.specs.Rows.{plus, times, zeros}
use Rattle.ring.proofs.Scalars as s

module _ {C : Type 0} (R : CommRing C) where
  cons_eq : {x y : C} {xs ys : List C} → x ≡ y → xs ≡ ys → ◌≡◌ {A = List C} (x ∷ xs) (y ∷ ys)
  cons_eq p q = ap₂ ◌∷◌ p q

  pub length-plus : (a b : List C) → length a ≡ length b → length (plus R a b) ≡ length a
  unfolding plus
  length-plus [] b h = refl
  length-plus (x ∷ a) [] h = sym h
  length-plus (x ∷ a) (y ∷ b) h = ap suc (length-plus a b (omega arith))

  pub length-times : (k : C) (a : List C) → length (times R k a) ≡ length a
  unfolding times
  length-times k [] = refl
  length-times k (x ∷ a) = ap suc (length-times k a)

  pub plus_comm : (a b : List C) → plus R a b ≡ plus R b a
  unfolding plus
  plus_comm [] [] = refl
  plus_comm [] (y ∷ b) = refl
  plus_comm (x ∷ a) [] = refl
  plus_comm (x ∷ a) (y ∷ b) = cons_eq (R.add_comm x y) (plus_comm a b)

  pub plus_assoc : (a b c : List C) → plus R (plus R a b) c ≡ plus R a (plus R b c)
  unfolding plus
  plus_assoc [] b c = refl
  plus_assoc (x ∷ a) [] c = refl
  plus_assoc (x ∷ a) (y ∷ b) [] = refl
  plus_assoc (x ∷ a) (y ∷ b) (z ∷ c) = cons_eq (R.add_assoc x y z) (plus_assoc a b c)

  pub plus-left-comm : (a b c : List C) → plus R a (plus R b c) ≡ plus R b (plus R a c)
  plus-left-comm a b c = sym (plus_assoc a b c) ∙ ap (λ w. plus R w c) (plus_comm a b) ∙ plus_assoc b a c

  pub plus_medial : (a b c d : List C) → plus R (plus R a b) (plus R c d) ≡ plus R (plus R a c) (plus R b d)
  plus_medial a b c d = simp (plus_assoc, plus-left-comm)

  pub times-plus : (k : C) (a b : List C) → times R k (plus R a b) ≡ plus R (times R k a) (times R k b)
  unfolding plus times
  times-plus k [] b = refl
  times-plus k (x ∷ a) [] = refl
  times-plus k (x ∷ a) (y ∷ b) = cons_eq (R.mul-add k x y) (times-plus k a b)

  pub plus_times : (j k : C) (a : List C) → times R (R.add j k) a ≡ plus R (times R j a) (times R k a)
  unfolding plus times
  plus_times j k [] = refl
  plus_times j k (x ∷ a) = cons_eq (s.add-mul R j k x) (plus_times j k a)

  pub times-times : (j k : C) (a : List C) → times R (R.mul j k) a ≡ times R j (times R k a)
  unfolding times
  times-times j k [] = refl
  times-times j k (x ∷ a) = cons_eq (R.mul_assoc j k x) (times-times j k a)

  pub times_swap : (j k : C) (a : List C) → times R j (times R k a) ≡ times R k (times R j a)
  times_swap j k a = sym (times-times j k a) ∙ ap (λ w. times R w a) (R.mul_comm j k) ∙ times-times k j a

  pub times-one : (a : List C) → times R R.one a ≡ a
  unfolding times
  times-one [] = refl
  times-one (x ∷ a) = cons_eq (s.one-mul R x) (times-one a)

  pub times-zeros : (k : C) (n : ℕ) → times R k (zeros R n) ≡ zeros R n
  unfolding times
  times-zeros k zero = refl
  times-zeros k (suc n) = cons_eq (s.mul-zero R k) (times-zeros k n)

  pub zero-times : (a : List C) → times R R.zero a ≡ zeros R (length a)
  unfolding times
  zero-times [] = refl
  zero-times (x ∷ a) = cons_eq (s.zero-mul R x) (zero-times a)

  pub plus-zeros : (a : List C) (n : ℕ) → length a ≡ n → plus R a (zeros R n) ≡ a
  unfolding plus
  plus-zeros [] n h = refl
  plus-zeros (x ∷ a) zero h = absurd (omega arith)
  plus-zeros (x ∷ a) (suc n) h = cons_eq (R.add-zero x) (plus-zeros a n (omega arith))
