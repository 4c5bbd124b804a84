-- How the working rows are filled and added to, step by step.
use Rattle.std.proofs.Common.{◌≡◌, ℕ, zero, suc, ◌+◌, ◌-◌, ◌/◌, ◌<◌, ◌≤◌, List, [], ◌∷◌, ◌++◌, length, get_or, take, drop, set, sym, refl, ap, ◌∙◌, ap₂, append-nil, arith, length-drop, length-set, drop_of_length-le, drop-cons, take_all}
use lib.Seq.{set-append_left, set-append_seam}
use Rattle.std.proofs.lemmas.List.{get_or_default, get_or_append_left}
use Rattle.ring.specs.Ring.{CommRing}
use Rattle.ring.specs.Rows.{add_into, zeros, bump, unit, modulus_row}
use Rattle.ring.proofs.Scalars as scalar
use Rattle.ring.proofs.Products as p

module _ {C : Type 0} (R : CommRing C) where
  cons_eq : {x y : C} {xs ys : List C} → x ≡ y → xs ≡ ys → ◌≡◌ {A = List C} (x ∷ xs) (y ∷ ys)
  cons_eq e g = ap₂ ◌∷◌ e g

  -- a 1 before zeros
  pub first_one : (n : ℕ) → 0 < n → set (zeros R n) 0 R.one ≡ unit R n
  unfolding unit
  first_one zero h = absurd (omega arith)
  first_one (suc m) h = let e : m ≡ suc m - 1 = omega arith in ap (λ k. R.one ∷ zeros R k) e

  zeros-more : (m : ℕ) → zeros R (suc m) ≡ zeros R m ++ zeros R 1
  zeros-more zero = refl
  zeros-more (suc m) = cons_eq refl (zeros-more m)

  unit-more : (n : ℕ) → 0 < n → unit R (n + 1) ≡ unit R n ++ zeros R 1
  unfolding unit
  unit-more n h = let e : n + 1 - 1 ≡ suc (n - 1) = omega arith in cons_eq refl (ap (zeros R) e ∙ zeros-more (n - 1))

  -- 1 with -1 added at n/2 and 1 written at n
  pub modulus_made : (n : ℕ) (row : List C) (x y : C) → 0 < n → row ≡ unit R (n + 1) → x ≡ get_or row (n / 2) x → y ≡ R.add x (R.neg R.one)
      → set (set row (n / 2) y) n R.one ≡ modulus_row R n
  unfolding modulus_row bump
  modulus_made n row x y h row_is x-is y-is =
      let lu : length (unit R n) ≡ n = p.length-unit R n h in
      let half : n / 2 < length (unit R n) = omega arith in
      let w-is : row ≡ unit R n ++ zeros R 1 = row_is ∙ unit-more n h in
      let x-at : x ≡ get_or (unit R n) (n / 2) R.zero =
      x-is ∙ ap (λ w. get_or w (n / 2) x) w-is ∙ get_or_append_left (unit R n) (zeros R 1) x (n / 2) half ∙ get_or_default (unit R n) (n / 2) x R.zero half in
      let low = set (unit R n) (n / 2) y in
      let ll : n ≡ length low = sym (length-set (unit R n) (n / 2) y ∙ lu) in
      ap (λ w. set (set w (n / 2) y) n R.one) w-is
      ∙ ap (λ w. set w n R.one) (set-append_left (unit R n) (zeros R 1) (n / 2) y half)
      ∙ ap (λ k. set (low ++ zeros R 1) k R.one) ll
      ∙ set-append_seam low R.zero [] R.one
      ∙ ap (λ w. set (unit R n) (n / 2) w ++ (R.one ∷ [])) (y-is ∙ ap (λ w. R.add w (R.neg R.one)) x-at)

  add_none : (target : List C) (k : C) → add_into R target k [] ≡ target
  unfolding add_into
  add_none [] k = refl
  add_none (x ∷ target) k = refl

  -- a row with k zeros after it
  pub padded : (f : List C) (m k : ℕ) → m ≡ length f + k → add_into R (zeros R m) R.one f ≡ f ++ zeros R k
  unfolding add_into
  padded [] m k e = add_none (zeros R m) R.one ∙ ap (zeros R) (omega arith)
  padded (x ∷ f) zero k e = absurd (omega arith)
  padded (x ∷ f) (suc m) k e = cons_eq (scalar.zero-add R _ ∙ scalar.one-mul R x) (padded f m k (omega arith))

  -- a row with a zero after it, by a copy and one write
  pub padded_by_copy : (f row : List C) (z : C) → length row ≡ length f + 1 → z ≡ R.zero → set (f ++ drop (length f) row) (length f) z ≡ f ++ zeros R 1
  padded_by_copy f row z long z-is =
      let e : drop (length f) row ≡ get_or row (length f) z ∷ [] =
      drop-cons row (length f) z (omega arith) ∙ ap {B = List C} (λ w. get_or row (length f) z ∷ w) (drop_of_length-le row {i = suc (length f)} (omega arith)) in
      ap (λ w. set (f ++ w) (length f) z) e ∙ set-append_seam f (get_or row (length f) z) [] z ∙ ap {B = List C} (λ w. f ++ (w ∷ [])) z-is

  -- a multiple added from place s on
  pub added_from : (s : ℕ) (target : List C) (k : C) (row : List C) → take s target ++ add_into R (drop s target) k row ≡ add_into R target k (zeros R s ++ row)
  unfolding add_into
  added_from zero target k row = refl
  added_from (suc s) [] k row = refl
  added_from (suc s) (x ∷ target) k row =
      cons_eq (sym (ap (R.add x) (scalar.mul-zero R k) ∙ R.add-zero x)) (added_from s target k row)

  -- past the end nothing is added
  pub added_past : (s : ℕ) (target : List C) (k : C) (row : List C) → length target ≤ s → target ≡ add_into R target k (zeros R s ++ row)
  unfolding add_into
  added_past s target k row h =
      sym (append-nil target)
      ∙ ap₂ (λ x y. x ++ add_into R y k row) (sym (take_all s target h)) (sym (drop_of_length-le target h))
      ∙ added_from s target k row

  -- a part of a row, from place s to its end, is added to and put back
  pub added_part : (s : ℕ) (target : List C) (k : C) (row part : List C) → part ≡ add_into R (take (length target - s) (drop s target)) k row
      → take s target ++ (part ++ drop (length target - s) (drop s target)) ≡ add_into R target k (zeros R s ++ row)
  added_part s target k row part part-is =
      let all : length (drop s target) ≤ length target - s = omega (arith, length-drop s target) in
      ap₂ (λ x y. take s target ++ (x ++ y)) (part-is ∙ ap (λ w. add_into R w k row) (take_all _ (drop s target) all)) (drop_of_length-le (drop s target) all)
      ∙ ap (λ w. take s target ++ w) (append-nil _) ∙ added_from s target k row
