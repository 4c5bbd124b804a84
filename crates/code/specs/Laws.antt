-- The laws of folds, distances and messages.
use Rattle.std.specs.Prelude.{◌≡◌, ℕ, ◌+◌, ◌*◌, ◌^◌, ◌<◌, ◌≤◌, List, length, ℤ, pos, ◌+ℤ◌, ◌-ℤ◌, ◌≢◌, bit_xor, slice_index, unsigned_abs}
use Rattle.code.specs.Widths.{radius}
use Rattle.code.specs.Folds.{fold, Same, Folded}
use Rattle.code.specs.Words.{word, binary_sum}
use Rattle.code.specs.Distances.{sums, squares, folded_squares, distance, nearest}
use Rattle.code.specs.Tries.{Best}
use Rattle.code.specs.Roots.{root_up, LeastRoot}
use Rattle.code.specs.Rows.{Alike, decoded, farthest}

pub record Laws : Type 0 where
  -- The fold is the one number from -r to r - 1 that differs from x by a multiple of 2 r.
  pub fold_range : (r : ℕ) (x : ℤ) → 0 < r → Folded r (fold r x)
  pub fold_differs : (r : ℕ) (x : ℤ) → 0 < r → Same (r + r) x (fold r x)
  pub fold_unique : (r : ℕ) (x f : ℤ) → 0 < r → Folded r f → Same (r + r) x f → fold r x ≡ f
  -- The folds of x and of x - r have magnitudes that add up to r.
  pub halves : (r : ℕ) (x : ℤ) → 0 < r → unsigned_abs (fold r x) + unsigned_abs (fold r (x -ℤ pos r)) ≡ r
  -- A sum folds to no more than the sum of the folds, and a number to no more than itself.
  pub fold_sum : (r : ℕ) (x y : ℤ) → 0 < r → unsigned_abs (fold r (x +ℤ y)) ≤ unsigned_abs (fold r x +ℤ fold r y)
  pub fold_small : (r : ℕ) (x : ℤ) → 0 < r → unsigned_abs (fold r x) ≤ unsigned_abs x
  -- The fold depends only on x modulo 2 ^ w.
  pub fold_same : (w : ℕ) (x y : ℤ) → 0 < w → Same (2 ^ w) x y → fold (radius w) x ≡ fold (radius w) y
  -- The fold at twice the radius of twice a number is twice the fold.
  pub fold_double : (r : ℕ) (x : ℤ) → 0 < r → fold (r + r) (x +ℤ x) ≡ fold r x +ℤ fold r x
  -- Lists of lengths at most L and M have a sum of length at most L + M.
  pub triangle : (L M : ℕ) (xs ys : List ℤ) → squares xs ≤ L * L → squares ys ≤ M * M → squares (sums xs ys) ≤ (L + M) * (L + M)
  -- The sum modulo 2 of two words is the word of the exclusive-or of their numbers.
  pub word_xor : (j k : ℕ) → j < 16 → k < 16 → binary_sum (word j) (word k) ≡ word (bit_xor j k)
  -- The nearest word has the least distance of all sixteen, and of those the lowest number.
  pub nearest_best : (w : ℕ) (v : List ℤ) → Best (distance w v) 16 (nearest w v) (distance w v (nearest w v))
  -- A squared distance below the squared radius is that of the nearest word, and all others are larger.
  pub sure : (w : ℕ) (v : List ℤ) (k : ℕ) → length v ≡ 8 → k < 16 → distance w v k < radius w * radius w → nearest w v ≡ k
  pub strictly : (w : ℕ) (v : List ℤ) (k : ℕ) → length v ≡ 8 → k < 16 → distance w v k < radius w * radius w → (j : ℕ) → j < 16 → (j ≢ k) → distance w v k < distance w v j
  -- An octet within L of a word, moved by at most M, still reads as that word if L + M is below the radius.
  pub robust : (w L M : ℕ) (v e : List ℤ) (k : ℕ) → length v ≡ 8 → length e ≡ 8 → k < 16 → distance w v k ≤ L * L → folded_squares (radius w) e ≤ M * M → L + M < radius w → nearest w (sums v e) ≡ k
  -- Distances, nearest words, decoded bytes and the farthest octet depend only on the numbers modulo 2 ^ w.
  pub distance_same : (w : ℕ) (u v : List ℤ) (k : ℕ) → 0 < w → Alike (2 ^ w) u v → distance w u k ≡ distance w v k
  pub nearest_same : (w : ℕ) (u v : List ℤ) → 0 < w → Alike (2 ^ w) u v → nearest w u ≡ nearest w v
  pub decoded_same : (w : ℕ) (u v : List ℤ) (n : ℕ) → 0 < w → Alike (2 ^ w) u v → decoded w u n ≡ decoded w v n
  pub farthest_same : (w : ℕ) (u v : List ℤ) (message : List ℕ) → 0 < w → Alike (2 ^ w) u v → farthest w u message ≡ farthest w v message
  -- A row whose every octet is within L of its word of a message of bytes, L below the radius, decodes to the message.
  pub decoded_near : (w L : ℕ) (v : List ℤ) (message : List ℕ) → 16 * length message ≤ length v → ((i : ℕ) → i < length message → slice_index message i < 256) → farthest w v message ≤ L * L → L < radius w → decoded w v (length message) ≡ message
  -- The root rounded up is the least whole number whose square is at least s.
  pub root_least : (s : ℕ) → LeastRoot s (root_up s)
