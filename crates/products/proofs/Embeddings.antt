-- Rows that a message was embedded into: their first places, and the bound of their coefficients.
use Rattle.std.proofs.Common.{◌≡◌, ℕ, ◌^◌, ◌<◌, ◌≤◌, true, ltb, List, [], ◌∷◌, map, length, get_or, take, replicate, sym, refl, ap, ◌∙◌, mod-lt, arith}
use lib.ListN.{length-replicate}
use Rattle.std.specs.List.{range_with_len}
use Rattle.std.proofs.lemmas.Nat.{pow_pos}
use Rattle.std.proofs.lemmas.List.FromFn.{fill_by_all, take-map-range_with_len, get_or-map-range_with_len, length-map-range_with_len}
use Rattle.std.proofs.lemmas.List.{get_or-take}
use Rattle.std.proofs.lemmas.Bool.{and_from, lt-ltb}
use Rattle.ring.specs.Engines.{all_below}
use Rattle.wrapping.specs.Buffers.{over}
use Rattle.wrapping.specs.Wraps.{embedded, embedded_row, position}
use Rattle.wrapping.proofs.Coefficients.{length-embedded_row}
use Rattle.wrapping.proofs.Filling.{over-whole}

-- the first places of a wrapped row wrap the first places
pub take-embedded : (n k w : ℕ) (row message : List ℕ) → n ≤ k → take n (embedded_row k w row message) ≡ embedded_row n w (take n row) message
unfolding embedded_row
take-embedded n k w row message h =
    take-map-range_with_len (λ i. embedded w (get_or row i 0) (position message i)) 0 k n h
    ∙ fill_by_all (λ i. embedded w (get_or (take n row) i 0) (position message i)) (map (λ i. embedded w (get_or row i 0) (position message i)) (range_with_len 0 n)) n 0
    (length-map-range_with_len (λ i. embedded w (get_or row i 0) (position message i)) 0 n)
    (λ i l. get_or-map-range_with_len (λ j. embedded w (get_or row j 0) (position message j)) 0 n i i 0 l (omega arith)
    ∙ ap (λ s. embedded w s (position message i)) (sym (get_or-take n row i 0 l)))

-- what is below a limit at each index is below it in a row
pub map_below : {X : Type 0} (m : ℕ) (f : X → ℕ) → ((x : X) → f x < m) → (xs : List X) → all_below m (map f xs) ≡ true
map_below m f h [] = refl
map_below m f h (x ∷ xs) = and_from (ltb (f x) m) (all_below m (map f xs)) (lt-ltb _ _ (h x)) (map_below m f h xs)

-- coefficients are below 2^w
pub embedded-below : (n w : ℕ) (row message : List ℕ) → all_below (2 ^ w) (embedded_row n w row message) ≡ true
unfolding embedded_row embedded
embedded-below n w row message = map_below (2 ^ w) (λ i. embedded w (get_or row i 0) (position message i)) (λ i. mod-lt _ (pow_pos w)) (range_with_len 0 n)

-- an array that a row was embedded into
pub wrapped_is : (w : ℕ) (row message out : List ℕ) → length row ≡ 1024 → out ≡ over (embedded_row (length row) w row message) (replicate 1024 0)
    → out ≡ embedded_row 1024 w row message
wrapped_is w row message out l e =
    e ∙ over-whole _ _ (length-embedded_row (length row) w row message ∙ l ∙ sym (length-replicate {A = ℕ} 1024 0))
    ∙ ap (λ k. embedded_row k w row message) l

pub wrapped-below : (w : ℕ) (row message out : List ℕ) → length row ≡ 1024 → out ≡ over (embedded_row (length row) w row message) (replicate 1024 0)
    → all_below (2 ^ w) out ≡ true
wrapped-below w row message out l e = ap (all_below (2 ^ w)) (wrapped_is w row message out l e) ∙ embedded-below 1024 w row message

pub wrapped_front : (n w : ℕ) (row message out : List ℕ) → length row ≡ 1024 → n ≤ 1024 → out ≡ over (embedded_row (length row) w row message) (replicate 1024 0)
    → take n out ≡ embedded_row n w (take n row) message
wrapped_front n w row message out l h e = ap (take n) (wrapped_is w row message out l e) ∙ take-embedded n 1024 w row message h
