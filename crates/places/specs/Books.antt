-- What the eight places of a station hold, as plain lines.
use Rattle.std.specs.Prelude.{ℕ, List, replicate, None, Option, slice_index_or}

-- what a filled place has: a width, n coefficients below 2^width, and an allowance,
-- which bounds the length of the noise in each octet
pub record Line : Type 0 where
  pub width : ℕ
  pub coefficients : List ℕ
  pub allowance : ℕ

-- a line for each place, or none where the place is empty
abbrev pub Book : Type 0
Book = List (Option Line)

abbrev pub empty_book : Book
empty_book = replicate 8 None

-- the line of a place
abbrev pub at : Book → ℕ → Option Line
at book place = slice_index_or book place None
