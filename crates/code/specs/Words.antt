-- The sixteen words of eight bits.
use Rattle.std.specs.Prelude.{◌≡◌, ℕ, ◌+◌, ◌*◌, ◌/◌, ◌%◌, ◌<◌, ◌⊎◌, List, [], ◌∷◌, map, ◌≢◌, bit_xor, count_ones, slice_index}

-- The four rows that every word is a sum of, each from position 0 on.
abbrev pub row0 : List ℕ
row0 = 1 ∷ 1 ∷ 1 ∷ 1 ∷ 0 ∷ 0 ∷ 0 ∷ 0 ∷ []

abbrev pub row1 : List ℕ
row1 = 0 ∷ 0 ∷ 1 ∷ 1 ∷ 1 ∷ 1 ∷ 0 ∷ 0 ∷ []

abbrev pub row2 : List ℕ
row2 = 0 ∷ 0 ∷ 0 ∷ 0 ∷ 1 ∷ 1 ∷ 1 ∷ 1 ∷ []

abbrev pub row3 : List ℕ
row3 = 0 ∷ 1 ∷ 0 ∷ 1 ∷ 0 ∷ 1 ∷ 0 ∷ 1 ∷ []

-- The sum modulo 2 of two lists of bits, position by position.
abbrev pub binary_sum : List ℕ → List ℕ → List ℕ
binary_sum [] bs = []
binary_sum (a ∷ xs) [] = []
binary_sum (a ∷ xs) (b ∷ bs) = (a + b) % 2 ∷ binary_sum xs bs

-- The row where the bit is 1, zeros where it is 0.
abbrev pub chosen : ℕ → List ℕ → List ℕ
chosen bit row = map (λ x. bit * x) row

-- The word of the number k: the sum of the rows that the four bits of k choose.
unfoldable pub word : ℕ → List ℕ
word k = binary_sum (chosen (k % 2) row0) (binary_sum (chosen (k / 2 % 2) row1) (binary_sum (chosen (k / 4 % 2) row2) (chosen (k / 8 % 2) row3)))

-- A list of bits as one number, position 0 its lowest bit.
abbrev pub mask : List ℕ → ℕ
mask [] = 0
mask (b ∷ bs) = b + 2 * mask bs

-- The rule of a table of sixteen masks.
pub record TableRule (table : List ℕ) : Type 0 where
  -- each mask is that of the word of its place
  pub rows : (k : ℕ) → k < 16 → slice_index table k ≡ mask (word k)
  -- the exclusive-or of two is that of the exclusive-or of their places
  pub sums : (j k : ℕ) → j < 16 → k < 16 → bit_xor (slice_index table j) (slice_index table k) ≡ slice_index table (bit_xor j k)
  -- two of them differ in 4 or 8 positions
  pub apart : (j k : ℕ) → j < 16 → k < 16 → (j ≢ k) → (count_ones (bit_xor (slice_index table j) (slice_index table k)) ≡ 4) ⊎ (count_ones (bit_xor (slice_index table j) (slice_index table k)) ≡ 8)
