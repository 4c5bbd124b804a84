-- Bytes as pairs of hexadecimal digits.
use Rattle.std.specs.Prelude.{ℕ, ◌+◌, ◌-◌, ◌*◌, ◌%◌, cond, List, [], ◌∷◌, length, Ok, Err, codes, Result, ◌==◌, nat_lt}
use Rattle.std.specs.Str.{bytes_eq}
use Rattle.reading.specs.declared.fault.Unread.{Unread}
use Rattle.reading.specs.declared.fault.Unread.TheVariants.{Hex}
use Rattle.reading.specs.Steps.{then}

-- the value of a digit from its character code: 0 to 9, then a to f in either case
abbrev pub digit_value : ℕ → Result ℕ Unread
digit_value code =
    cond (nat_lt code 48) (Err Hex)
    (cond (nat_lt code 58) (Ok (code - 48))
    (cond (nat_lt code 65) (Err Hex)
    (cond (nat_lt code 71) (Ok (code - 55))
    (cond (nat_lt code 97) (Err Hex)
    (cond (nat_lt code 103) (Ok (code - 87)) (Err Hex))))))

-- the byte that two digits write, the high one first
abbrev pub byte_of : ℕ → ℕ → Result ℕ Unread
byte_of high low = then (digit_value high) (λ h. then (digit_value low) (λ l. Ok (h * 16 + l)))

-- the bytes that pairs of digits write
unfoldable pub pairs : List ℕ → Result (List ℕ) Unread
pairs [] = Ok []
pairs (high ∷ []) = Err Hex
pairs (high ∷ low ∷ text) = then (byte_of high low) (λ byte. then (pairs text) (λ bytes. Ok (byte ∷ bytes)))

-- the bytes that a word stands for: `-` for none
abbrev pub bytes_of : List ℕ → Result (List ℕ) Unread
bytes_of word = cond (bytes_eq word (codes "-")) (Ok []) (cond (length word % 2 == 0) (pairs word) (Err Hex))
