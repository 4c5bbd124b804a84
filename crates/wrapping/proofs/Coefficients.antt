-- The rows of a wrapping, read place by place.
use Rattle.std.proofs.Common.{◌≡◌, ℕ, zero, suc, ◌+◌, ◌%◌, ◌^◌, ◌<◌, ◌≤◌, min, List, [], ◌∷◌, length, get_or, drop, ℤ, ◌+ℤ◌, refl, ap, arith}
use Rattle.std.proofs.lemmas.List.{get_or-map}
use Rattle.std.proofs.lemmas.List.FromFn.{length-map-range_with_len, get_or-map-range_with_len}
use Rattle.wrapping.specs.Secrets.{secret, secret_at}
use Rattle.wrapping.specs.Joins.{joined}
use Rattle.wrapping.specs.Wraps.{embedded, embedded_row, position}

pub slice_index_or-secret : (f : List ℤ) (i : ℕ) (d e : ℤ) → i < length f → get_or (secret f) i e ≡ secret_at i (get_or f i d)
unfolding secret
slice_index_or-secret [] i d e h = absurd (omega arith)
slice_index_or-secret (z ∷ zs) zero d e h = refl
slice_index_or-secret (z ∷ zs) (suc i) d e h = get_or-map (λ y. y +ℤ y) zs i d e (omega arith)

pub length-embedded_row : (n w : ℕ) (row message : List ℕ) → length (embedded_row n w row message) ≡ n
unfolding embedded_row
length-embedded_row n w row message = length-map-range_with_len _ 0 n

pub slice_index_or-embedded_row : (n w : ℕ) (row message : List ℕ) (i d : ℕ) → i < n
    → get_or (embedded_row n w row message) i d ≡ embedded w (get_or row i 0) (position message i)
unfolding embedded_row
slice_index_or-embedded_row n w row message i d h = get_or-map-range_with_len (λ k. embedded w (get_or row k 0) (position message k)) 0 n i i d h (omega arith)

pub length-joined : (w : ℕ) (row other : List ℕ) → length (joined w row other) ≡ length row
unfolding joined
length-joined w [] ys = refl
length-joined w (x ∷ xs) [] = refl
length-joined w (x ∷ xs) (y ∷ ys) = ap suc (length-joined w xs ys)

pub slice_index_or-joined : (w : ℕ) (row other : List ℕ) (i d : ℕ) → i < length row → i < length other
    → get_or (joined w row other) i d ≡ (get_or row i 0 + get_or other i 0) % 2 ^ w
unfolding joined
slice_index_or-joined w [] ys i d h g = absurd (omega arith)
slice_index_or-joined w (x ∷ xs) [] i d h g = absurd (omega arith)
slice_index_or-joined w (x ∷ xs) (y ∷ ys) zero d h g = refl
slice_index_or-joined w (x ∷ xs) (y ∷ ys) (suc i) d h g = slice_index_or-joined w xs ys i d (omega arith) (omega arith)

-- past the shorter of the two rows nothing changes
pub drop-joined : (w : ℕ) (row other : List ℕ) (i : ℕ) → min (length row) (length other) ≤ i → drop i (joined w row other) ≡ drop i row
unfolding joined
drop-joined w [] ys i h = refl
drop-joined w (x ∷ xs) [] i h = refl
drop-joined w (x ∷ xs) (y ∷ ys) zero h = absurd (omega arith)
drop-joined w (x ∷ xs) (y ∷ ys) (suc i) h = drop-joined w xs ys i (omega arith)
