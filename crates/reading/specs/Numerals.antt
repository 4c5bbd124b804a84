-- The number that decimal digits write, with a limit or of 32 bits.
use Rattle.std.specs.Prelude.{ℕ, ◌+◌, ◌-◌, ◌*◌, cond, ◌||◌, List, [], ◌∷◌, length, ℤ, pos, neg_ℤ, Some, None, Ok, Err, Option, Result, ◌==◌, nat_lt}
use Rattle.std.specs.Option.{unwrap_or}
use Rattle.reading.specs.declared.fault.Unread.{Unread}
use Rattle.reading.specs.declared.fault.Unread.TheVariants.{Number}
use Rattle.reading.specs.Steps.{then}

-- a number up to a limit
abbrev pub limited : ℕ → ℕ → Result ℕ Unread
limited most number = cond (nat_lt most number) (Err Number) (Ok number)

-- the number with one more digit
abbrev pub one_more : ℕ → ℕ → ℕ → Result ℕ Unread
one_more most number code = cond (nat_lt code 48 || nat_lt 57 code) (Err Number) (limited most (number * 10 + (code - 48)))

-- the number with more digits
unfoldable pub more_digits : ℕ → ℕ → List ℕ → Result ℕ Unread
more_digits most number [] = Ok number
more_digits most number (code ∷ text) = then (one_more most number code) (λ next. more_digits most next text)

-- the number that one digit or more write
abbrev pub digits_of : ℕ → List ℕ → Result ℕ Unread
digits_of most text = cond (length text == 0) (Err Number) (more_digits most 0 text)

-- what follows a sign, where a text begins with it
abbrev pub after_sign : ℕ → List ℕ → Option (List ℕ)
after_sign sign [] = None
after_sign sign (code ∷ text) = cond (code == sign) (Some text) None

-- a number without sign, before which a plus may stand
abbrev pub unsigned_of : ℕ → List ℕ → Result ℕ Unread
unsigned_of most text = digits_of most (unwrap_or (after_sign 43 text) text)

-- a number without sign, of 64 bits
abbrev pub number_of : List ℕ → Result ℕ Unread
number_of text = unsigned_of 18446744073709551615 text

-- a width in bits, of 32 bits
abbrev pub width_of : List ℕ → Result ℕ Unread
width_of text = unsigned_of 4294967295 text

-- a number of 32 bits, by what follows its minus, if it has one
abbrev pub signed_by : Option (List ℕ) → List ℕ → Result ℤ Unread
signed_by (Some digits) text = then (digits_of 2147483648 digits) (λ n. Ok (neg_ℤ (pos n)))
signed_by None text = then (unsigned_of 2147483647 text) (λ n. Ok (pos n))

-- a number of 32 bits, before which a plus or a minus may stand
abbrev pub signed_of : List ℕ → Result ℤ Unread
signed_of text = signed_by (after_sign 45 text) text
