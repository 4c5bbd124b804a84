-- The turn of a row is linear, and keeps the length.
use Rattle.std.proofs.Common.{◌≡◌, ℕ, zero, suc, ◌-◌, ◌/◌, ◌<◌, List, [], ◌∷◌, length, get_or, take, set, sym, refl, ap, ◌∙◌, ap₂, arith, length-set, length-take}
use lib.Seq.{set-get_or}
use Rattle.ring.specs.Ring.{CommRing}
use Rattle.ring.specs.Rows.{plus, times, bump, top, turn}
use Rattle.ring.proofs.Scalars as s

module _ {C : Type 0} (R : CommRing C) where
  pub slice_index_or-plus : (a b : List C) (i : ℕ) → length a ≡ length b → get_or (plus R a b) i R.zero ≡ R.add (get_or a i R.zero) (get_or b i R.zero)
  unfolding plus
  slice_index_or-plus [] [] i h = sym (R.add-zero _)
  slice_index_or-plus [] (y ∷ b) i h = absurd (omega arith)
  slice_index_or-plus (x ∷ a) [] i h = absurd (omega arith)
  slice_index_or-plus (x ∷ a) (y ∷ b) zero h = refl
  slice_index_or-plus (x ∷ a) (y ∷ b) (suc i) h = slice_index_or-plus a b i (omega arith)

  pub take-plus : (i : ℕ) (a b : List C) → take i (plus R a b) ≡ plus R (take i a) (take i b)
  unfolding plus
  take-plus zero a b = refl
  take-plus (suc i) [] b = refl
  take-plus (suc i) (x ∷ a) [] = refl
  take-plus (suc i) (x ∷ a) (y ∷ b) = ap {B = List C} (λ w. R.add x y ∷ w) (take-plus i a b)

  pub set-plus : (a b : List C) (i : ℕ) (x y : C) → set (plus R a b) i (R.add x y) ≡ plus R (set a i x) (set b i y)
  unfolding plus
  set-plus [] b i x y = refl
  set-plus (u ∷ a) [] zero x y = refl
  set-plus (u ∷ a) [] (suc i) x y = refl
  set-plus (u ∷ a) (v ∷ b) zero x y = refl
  set-plus (u ∷ a) (v ∷ b) (suc i) x y = ap {B = List C} (λ w. R.add u v ∷ w) (set-plus a b i x y)

  pub slice_index_or-times : (k : C) (a : List C) (i : ℕ) → get_or (times R k a) i R.zero ≡ R.mul k (get_or a i R.zero)
  unfolding times
  slice_index_or-times k [] i = sym (s.mul-zero R k)
  slice_index_or-times k (x ∷ a) zero = refl
  slice_index_or-times k (x ∷ a) (suc i) = slice_index_or-times k a i

  pub take-times : (i : ℕ) (k : C) (a : List C) → take i (times R k a) ≡ times R k (take i a)
  unfolding times
  take-times zero k a = refl
  take-times (suc i) k [] = refl
  take-times (suc i) k (x ∷ a) = ap {B = List C} (λ w. R.mul k x ∷ w) (take-times i k a)

  pub set-times : (k : C) (a : List C) (i : ℕ) (x : C) → set (times R k a) i (R.mul k x) ≡ times R k (set a i x)
  unfolding times
  set-times k [] i x = refl
  set-times k (u ∷ a) zero x = refl
  set-times k (u ∷ a) (suc i) x = ap {B = List C} (λ w. R.mul k u ∷ w) (set-times k a i x)

  pub bump-plus : (i : ℕ) (t u : C) (a b : List C) → length a ≡ length b → bump R i (R.add t u) (plus R a b) ≡ plus R (bump R i t a) (bump R i u b)
  unfolding bump
  bump-plus i t u a b h =
      ap (set (plus R a b) i) (ap (λ w. R.add w (R.add t u)) (slice_index_or-plus a b i h) ∙ s.medial R _ _ _ _) ∙ set-plus a b i _ _

  pub bump-times : (i : ℕ) (k t : C) (a : List C) → bump R i (R.mul k t) (times R k a) ≡ times R k (bump R i t a)
  unfolding bump
  bump-times i k t a =
      ap (set (times R k a) i) (ap (λ w. R.add w (R.mul k t)) (slice_index_or-times k a i) ∙ sym (R.mul-add _ _ _)) ∙ set-times k a i _

  pub bump-zero : (i : ℕ) (a : List C) → bump R i R.zero a ≡ a
  unfolding bump
  bump-zero i a = ap (set a i) (R.add-zero _) ∙ set-get_or a i R.zero

  -- the row before t is added
  abbrev pub moved : ℕ → C → List C → List C
  moved n t a = R.neg t ∷ take (n - 1) a

  pub length_moved : (n : ℕ) (t : C) (a : List C) → 0 < n → length a ≡ n → length (moved n t a) ≡ n
  length_moved n t a p h = omega (arith, length-take (n - 1) a)

  pub length-turn : (n : ℕ) (a : List C) → 0 < n → length a ≡ n → length (turn R n a) ≡ n
  unfolding turn bump
  length-turn n a p h = length-set (moved n (top R n a) a) (n / 2) _ ∙ length_moved n (top R n a) a p h

  pub turn-plus : (n : ℕ) (a b : List C) → 0 < n → length a ≡ n → length b ≡ n → turn R n (plus R a b) ≡ plus R (turn R n a) (turn R n b)
  unfolding turn plus
  turn-plus n a b p h k =
      let e : length a ≡ length b = omega arith in
      let m : length (moved n (top R n a) a) ≡ length (moved n (top R n b) b) = length_moved n (top R n a) a p h ∙ sym (length_moved n (top R n b) b p k) in
      ap₂ (λ t w. bump R (n / 2) t (R.neg t ∷ w)) (slice_index_or-plus a b (n - 1) e) (take-plus (n - 1) a b)
      ∙ ap (λ w. bump R (n / 2) (R.add (top R n a) (top R n b)) (w ∷ plus R (take (n - 1) a) (take (n - 1) b))) (s.neg-add R _ _)
      ∙ bump-plus (n / 2) (top R n a) (top R n b) (moved n (top R n a) a) (moved n (top R n b) b) m

  pub turn-times : (n : ℕ) (k : C) (a : List C) → turn R n (times R k a) ≡ times R k (turn R n a)
  unfolding turn times
  turn-times n k a =
      ap₂ (λ t w. bump R (n / 2) t (R.neg t ∷ w)) (slice_index_or-times k a (n - 1)) (take-times (n - 1) k a)
      ∙ ap (λ w. bump R (n / 2) (R.mul k (top R n a)) (w ∷ times R k (take (n - 1) a))) (sym (s.mul-neg R k _))
      ∙ bump-times (n / 2) k (top R n a) (moved n (top R n a) a)

  -- a row whose top is zero only moves up
  pub turn_low : (n : ℕ) (a : List C) → top R n a ≡ R.zero → turn R n a ≡ R.zero ∷ take (n - 1) a
  unfolding turn
  turn_low n a h =
      ap (λ t. bump R (n / 2) t (R.neg t ∷ take (n - 1) a)) h
      ∙ bump-zero (n / 2) (R.neg R.zero ∷ take (n - 1) a)
      ∙ ap {B = List C} (λ w. w ∷ take (n - 1) a) (s.neg-zero R)
