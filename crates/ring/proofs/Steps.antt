-- The steps of the code, over rows.
use Rattle.std.proofs.Common.{◌≡◌, ℕ, zero, suc, ◌+◌, ◌-◌, ◌/◌, ◌<◌, ◌≤◌, min, List, [], ◌∷◌, ◌++◌, length, get_or, take, drop, set, sym, refl, ap, ◌∙◌, ap₂, arith, drop_of_length-le, drop-cons}
use Rattle.std.proofs.lemmas.List.{get_or_default, get_or-replicate, length-replicate}
use Rattle.ring.specs.Ring.{CommRing}
use Rattle.ring.specs.Rows.{plus, times, add_into, zeros, bump, top, turn, turned, product}
use Rattle.ring.proofs.RowLaws as r
use Rattle.ring.proofs.Turns as t
use Rattle.ring.proofs.Mixed.{mixed, mixed_read, mixed-set}

module _ {C : Type 0} (R : CommRing C) where
  -- a row turned by one place
  rotated : (row : List C) → 0 < length row → drop (length row - 1) row ++ take (length row - 1) row ≡ top R (length row) row ∷ take (length row - 1) row
  rotated row p =
      let e = drop-cons row (length row - 1) R.zero (omega arith) in
      let f : drop (suc (length row - 1)) row ≡ [] = drop_of_length-le row {i = suc (length row - 1)} (omega arith) in
      ap (λ w. w ++ take (length row - 1) row) (e ∙ ap {B = List C} (λ w. top R (length row) row ∷ w) f)

  -- the turn of a row that has a place
  pub turned-some : (row : List C) → 0 < length row → turned R row ≡ turn R (length row) row
  turned-some [] p = absurd (omega arith)
  turned-some (x ∷ row) p = refl

  pub turned_none : (row : List C) → length row ≡ 0 → row ≡ turned R row
  turned_none [] p = refl
  turned_none (x ∷ row) p = absurd (omega arith)

  pub turn_made : (row rot : List C) (x m h p : C) → 0 < length row
      → rot ≡ drop (length row - 1) row ++ take (length row - 1) row
      → x ≡ get_or rot 0 x → m ≡ R.neg x
      → h ≡ get_or (set rot 0 m) (length (set rot 0 m) / 2) h → p ≡ R.add h x
      → set (set rot 0 m) (length (set rot 0 m) / 2) p ≡ turned R row
  unfolding turn bump
  turn_made row rot x m h p some rot-is x-is m-is h_is p-is =
      let n = length row in
      let u = top R n row in
      let M = t.moved R n u row in
      let e : rot ≡ u ∷ take (n - 1) row = rot-is ∙ rotated row some in
      let x-top : x ≡ u = x-is ∙ ap (λ w. get_or w 0 x) e in
      let s-is : set rot 0 m ≡ M = ap (λ w. set w 0 m) e ∙ ap {B = List C} (λ w. w ∷ take (n - 1) row) (m-is ∙ ap R.neg x-top) in
      let long : length M ≡ n = t.length_moved R n u row some refl in
      let s-long : length (set rot 0 m) ≡ n = ap length s-is ∙ long in
      let h-at : h ≡ get_or M (n / 2) R.zero = h_is ∙ ap₂ (λ w k. get_or w (k / 2) h) s-is s-long ∙ get_or_default M (n / 2) h R.zero (omega arith) in
      ap₂ (λ w k. set w (k / 2) p) s-is s-long ∙ ap (set M (n / 2)) (p-is ∙ ap₂ R.add h-at x-top) ∙ sym (turned-some row some)

  pub length-add_into : (old : List C) (k : C) (row : List C) → length (add_into R old k row) ≡ length old
  unfolding add_into
  length-add_into [] k row = refl
  length-add_into (t ∷ old) k [] = refl
  length-add_into (t ∷ old) k (x ∷ row) = ap suc (length-add_into old k row)

  pub slice_index_or-add_into : (old : List C) (k : C) (row : List C) (i : ℕ) → i < length old → i < length row
      → get_or (add_into R old k row) i R.zero ≡ R.add (get_or old i R.zero) (R.mul k (get_or row i R.zero))
  unfolding add_into
  slice_index_or-add_into [] k row i h g = absurd (omega arith)
  slice_index_or-add_into (t ∷ old) k [] i h g = absurd (omega arith)
  slice_index_or-add_into (t ∷ old) k (x ∷ row) zero h g = refl
  slice_index_or-add_into (t ∷ old) k (x ∷ row) (suc i) h g = slice_index_or-add_into old k row i (omega arith) (omega arith)

  same-mixed : (i : ℕ) (xs : List C) → mixed i xs xs ≡ xs
  unfolding mixed
  same-mixed zero xs = refl
  same-mixed (suc i) [] = refl
  same-mixed (suc i) (x ∷ xs) = ap {B = List C} (λ w. x ∷ w) (same-mixed i xs)

  -- past the shorter of the two nothing changes
  pub add_into-done : (old : List C) (k : C) (row : List C) (i : ℕ) → min (length old) (length row) ≤ i → mixed i (add_into R old k row) old ≡ add_into R old k row
  unfolding add_into mixed
  add_into-done [] k row zero h = refl
  add_into-done [] k row (suc i) h = refl
  add_into-done (t ∷ old) k [] zero h = refl
  add_into-done (t ∷ old) k [] (suc i) h = ap {B = List C} (λ w. t ∷ w) (same-mixed i old)
  add_into-done (t ∷ old) k (x ∷ row) zero h = absurd (omega arith)
  add_into-done (t ∷ old) k (x ∷ row) (suc i) h = ap {B = List C} (λ w. R.add t (R.mul k x) ∷ w) (add_into-done old k row i (omega arith))

  -- at equal lengths it is the sum with the multiple
  pub add_into-plus : (old : List C) (k : C) (row : List C) → length old ≡ length row → add_into R old k row ≡ plus R old (times R k row)
  unfolding add_into plus times
  add_into-plus [] k row h = refl
  add_into-plus (t ∷ old) k [] h = absurd (omega arith)
  add_into-plus (t ∷ old) k (x ∷ row) h = ap {B = List C} (λ w. R.add t (R.mul k x) ∷ w) (add_into-plus old k row (omega arith))

  -- the sum with a multiple, a place further
  pub add_made : (old row : List C) (k : C) (i : ℕ) (target : List C) (x y m p : C)
      → i < length old → i < length row
      → target ≡ mixed i (add_into R old k row) old
      → x ≡ get_or target i x → y ≡ get_or row i y → m ≡ R.mul k y → p ≡ R.add x m
      → set target i p ≡ mixed (i + 1) (add_into R old k row) old
  add_made old row k i target x y m p here within so_far x-is y-is m-is p-is =
      let new = add_into R old k row in
      let l : length new ≡ length old = length-add_into old k row in
      let x_old : x ≡ get_or old i R.zero = x-is ∙ ap (λ w. get_or w i x) so_far ∙ mixed_read i new old x ∙ get_or_default old i x R.zero here in
      let y-row : y ≡ get_or row i R.zero = y-is ∙ get_or_default row i y R.zero within in
      let p-new : p ≡ get_or new i R.zero =
      p-is ∙ ap₂ R.add x_old (m-is ∙ ap (R.mul k) y-row) ∙ sym (slice_index_or-add_into old k row i here within) in
      ap (λ w. set w i p) so_far ∙ mixed-set i new old p (omega arith) (p-new ∙ get_or_default new i R.zero p (omega arith))

  -- Horner's rule starts from zeros
  pub horner_starts : (a b out : List C) (n : ℕ) → length out ≡ n → out ≡ zeros R n → out ≡ product R (length out) (drop (length a - 0) a) b
  unfolding product
  horner_starts a b out n l zero-is =
      zero-is ∙ ap (zeros R) (sym l) ∙ ap (λ p. product R (length out) p b) (sym (drop_of_length-le a {i = length a - 0} (omega arith)))

  -- one place more is zero
  pub zero_made : (n : ℕ) (old out : List C) (i : ℕ) (z : C) → length old ≡ n → i < n → out ≡ mixed i (zeros R n) old → z ≡ R.zero
      → set out i z ≡ mixed (i + 1) (zeros R n) old
  zero_made n old out i z l within so_far z-is =
      ap (λ w. set w i z) so_far
      ∙ mixed-set i (zeros R n) old z (omega (arith, length-replicate n R.zero)) (z-is ∙ sym (get_or-replicate n i R.zero z within))

  -- Horner's step
  pub horner_made : (n : ℕ) (a b out after next : List C) (i : ℕ) (x : C) → 0 < n → length out ≡ n → 0 < i → i ≤ length a
      → length b ≡ n → out ≡ product R n (drop i a) b → after ≡ turned R out → x ≡ get_or a (i - 1) x → next ≡ add_into R after x b
      → next ≡ product R n (drop (i - 1) a) b
  unfolding product
  horner_made n a b out after next i x some l down within b-long so_far turned-is x-is next-is =
      let e : suc (i - 1) ≡ i = omega arith in
      let d : drop (i - 1) a ≡ x ∷ drop i a =
      drop-cons a (i - 1) x (omega arith) ∙ ap₂ {C = List C} (λ y k. y ∷ drop k a) (sym x-is) e in
      let t-is : after ≡ turn R n (product R n (drop i a) b) = turned-is ∙ turned-some out (omega arith) ∙ ap₂ (turn R) l so_far in
      let long : length after ≡ length b = ap length t-is ∙ t.length-turn R n _ some (ap length (sym so_far) ∙ l) ∙ sym b-long in
      next-is ∙ add_into-plus after x b long ∙ ap (λ w. plus R w (times R x b)) t-is ∙ r.plus_comm R _ (times R x b) ∙ sym (ap (λ w. product R n w b) d)
