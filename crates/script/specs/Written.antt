-- Bytes and rows as they are written.
use Rattle.std.specs.Prelude.{ℕ, ◌+◌, ◌/◌, ◌%◌, Bool, true, false, cond, List, [], ◌∷◌, ◌++◌, codes, decimal, ◌==◌, nat_lt}

-- the character code of the digit of a value below sixteen, in lower case
abbrev pub digit_code : ℕ → ℕ
digit_code value = cond (nat_lt value 10) (48 + value) (87 + value)

-- the two digits of a byte, the high one first
abbrev pub byte_digits : ℕ → List ℕ
byte_digits byte = digit_code (byte / 16) ∷ digit_code (byte % 16) ∷ []

-- bytes as pairs of digits
unfoldable pub hex_of : List ℕ → List ℕ
hex_of [] = []
hex_of (byte ∷ bytes) = byte_digits byte ++ hex_of bytes

-- a place with its value
abbrev pub term_text : ℕ → ℕ → List ℕ
term_text place value = decimal place ++ (codes ":" ++ decimal value)

-- the places of a row that are not zero, with their values, where the row begins at a place
unfoldable pub terms : ℕ → List ℕ → List (List ℕ)
terms place [] = []
terms place (value ∷ row) = cond (value == 0) (terms (place + 1) row) (term_text place value ∷ terms (place + 1) row)

-- terms with commas between them, and `-` where there is none; whether no term came before
unfoldable pub listed : Bool → List (List ℕ) → List ℕ
listed first [] = cond first (codes "-") []
listed first (term ∷ more) = (cond first [] (codes ",") ++ term) ++ listed false more

-- a row as its terms
abbrev pub row_text : List ℕ → List ℕ
row_text row = listed true (terms 0 row)
