-- Ten worked cases at degree 16.
use Rattle.std.specs.Prelude.{◌≡◌, ℕ, List, [], ◌∷◌, replicate, ℤ, pos, negsuc, Some, Ok, Err, slice_set}
use Rattle.ring.specs.Engines.{product_mod}
use Rattle.ring.specs.declared.refusal.Refusal.TheVariants.{TooNoisy}
use Rattle.code.specs.Words.{word}
use Rattle.code.specs.Distances.{distance, nearest}
use Rattle.wrapping.specs.Secrets.{secret, reduced_row}
use Rattle.wrapping.specs.Wraps.{wrap, allowance}
use Rattle.keying.specs.declared.key.Key.{Key}
use Rattle.places.specs.Books.{Line, empty_book}
use Rattle.custody.specs.Checks.{deposit, trim}
use Rattle.keying.specs.Keying.{Inverts, Made, Uninvertible}
use Rattle.keying.specs.Told.{Told, tells}
use Rattle.worked_cases.specs.Sparse.{numbers_at, wholes_at}

-- two engines of degree 16, one of each modulus
abbrev pub told : Told
told = tells 16 3457 16 2048

-- 1 at place 0
abbrev pub one : List ℤ
one = wholes_at ((0, pos 1) ∷ [])

-- the multiple 2305 of 1, which is a third modulo 3457
abbrev pub third : List ℕ
third = numbers_at ((0, 2305) ∷ [])

-- f' = 3 x^12 + 2 x^8 - 4 x^4 - 2
abbrev pub vanishing : List ℤ
vanishing = wholes_at ((0, negsuc 1) ∷ (4, negsuc 3) ∷ (8, pos 2) ∷ (12, pos 3) ∷ [])

-- 6 at every place
abbrev pub sixes : List ℤ
sixes = replicate 16 (pos 6)

-- four numbers half way between 0 and the radius of width 10, and four zeros
abbrev pub half_way : List ℤ
half_way = pos 256 ∷ pos 256 ∷ pos 256 ∷ pos 256 ∷ pos 0 ∷ pos 0 ∷ pos 0 ∷ pos 0 ∷ []

-- the zero message wrapped under the key of f' = g = 1 with noise 1 at width 10
abbrev pub wrapped : Line
wrapped = record { width = 10; coefficients = numbers_at ((0, 683) ∷ []); allowance = 1 }

pub record WorkedCases : Type 0 where
  -- x^8 times x^8 is x^8 - 1
  pub middle_squared : product_mod 3457 16 (numbers_at ((8, 1) ∷ [])) (numbers_at ((8, 1) ∷ [])) ≡ numbers_at ((0, 3456) ∷ (8, 1) ∷ [])
  -- x^15 times x^15 is -x^6
  pub top_squared : product_mod 3457 16 (numbers_at ((15, 1) ∷ [])) (numbers_at ((15, 1) ∷ [])) ≡ numbers_at ((6, 3456) ∷ [])
  -- the sum of all four rows
  pub last_word : word 15 ≡ 1 ∷ 0 ∷ 0 ∷ 1 ∷ 0 ∷ 1 ∷ 1 ∷ 0 ∷ []
  -- half way between two words the lower number is read
  pub tie : (distance 10 half_way 0 ≡ 262144) × (distance 10 half_way 1 ≡ 262144) × (nearest 10 half_way ≡ 0)
  -- one past half way the other is
  pub past_tie : nearest 10 (pos 257 ∷ pos 256 ∷ pos 256 ∷ pos 256 ∷ pos 0 ∷ pos 0 ∷ pos 0 ∷ pos 0 ∷ []) ≡ 1
  -- f' = g = 1 give f = 3, whose inverse is a third, and h is g times the inverse
  pub small_key : (secret one ≡ wholes_at ((0, pos 3) ∷ [])) × Inverts 16 one third × (product_mod 3457 16 (reduced_row 3457 one) third ≡ third)
  -- f = 6 x^12 + 4 x^8 - 8 x^4 - 3 vanishes where x^4 = 460, and so does x^16 - x^8 + 1: it has no inverse
  pub no_key : Uninvertible 16 vanishing
  -- under the key of f' = g = 1 the noise 1 and the message 0 make 683 at place 0, with an allowance of 1
  pub wraps : (wrap 16 10 third one (0 ∷ []) ≡ wrapped.coefficients) × (allowance 16 10 one wrapped.coefficients (0 ∷ []) ≡ 1)
      × ((key : Key) → Made 16 one one key → deposit key told empty_book 0 10 one (0 ∷ []) ≡ Ok wrapped)
  -- the same trimmed: 342 at place 0, the width 9, and an allowance of 2
  pub trims : (key : Key) → Made 16 one one key → trim key told (slice_set empty_book 0 (Some wrapped)) 0
      ≡ Ok (record { width = 9; coefficients = numbers_at ((0, 342) ∷ []); allowance = 2 })
  -- under the key of f' = 0 and g = 6 everywhere, noise 6 everywhere would need an allowance of 725, past the radius 512
  pub too_noisy : (allowance 16 10 (wholes_at []) (wrap 16 10 (replicate 16 6) sixes (0 ∷ [])) (0 ∷ []) ≡ 725)
      × ((key : Key) → Made 16 (wholes_at []) sixes key → deposit key told empty_book 0 10 sixes (0 ∷ []) ≡ Err TooNoisy)
