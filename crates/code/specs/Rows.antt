-- Octets of a row of numbers, what a row decodes to, and how far it is from a message.
use Rattle.std.specs.Prelude.{◌≡◌, ℕ, zero, suc, ◌+◌, ◌*◌, ◌/◌, ◌<◌, max, List, map, length, get_or, ℤ, pos, slice_index_or}
use Rattle.std.specs.List.{range_with_len}
use Rattle.code.specs.Folds.{Same}
use Rattle.code.specs.Distances.{distance, nearest}
use Rattle.code.specs.Messages.{number}

-- A row of natural numbers as whole numbers.
abbrev pub whole : List ℕ → List ℤ
whole row = map pos row

-- Octet i of a row: its places 8 i to 8 i + 7, zeros past the end.
unfoldable pub octet : List ℤ → ℕ → List ℤ
octet v i = map (λ j. get_or v (8 * i + j) (pos 0)) (range_with_len 0 8)

-- Byte j that a row decodes to: the nearest word's number of octet 2 j, and 16 times that of octet 2 j + 1.
abbrev pub decoded_byte : ℕ → List ℤ → ℕ → ℕ
decoded_byte w v j = nearest w (octet v (2 * j)) + 16 * nearest w (octet v (2 * j + 1))

-- The first n bytes that a row decodes to.
unfoldable pub decoded : ℕ → List ℤ → ℕ → List ℕ
decoded w v n = map (decoded_byte w v) (range_with_len 0 n)

-- Two rows of one length whose numbers differ, place by place, by multiples of n.
pub record Alike (n : ℕ) (u v : List ℤ) : Type 0 where
  pub long : length u ≡ length v
  pub each : (i : ℕ) → i < length u → Same n (slice_index_or u i (pos 0)) (slice_index_or v i (pos 0))

-- The greatest of f 0 to f (n - 1), or 0 where n is 0.
unfoldable pub greatest : (ℕ → ℕ) → ℕ → ℕ
greatest f zero = 0
greatest f (suc n) = max (greatest f n) (f n)

-- The largest squared distance of an octet of a row from its word of the message.
unfoldable pub farthest : ℕ → List ℤ → List ℕ → ℕ
farthest w v message = greatest (λ i. distance w (octet v i) (number message i)) (length v / 8)
