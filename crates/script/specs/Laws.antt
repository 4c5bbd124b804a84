-- What is written can be read.
use Rattle.std.specs.Prelude.{◌≡◌, ℕ, ◌<◌, ◌≤◌, true, List, ◌∷◌, length, Ok}
use Rattle.ring.specs.Engines.{all_below}
use Rattle.reading.specs.Coefficients.{natural}
use Rattle.reading.specs.Hex.{bytes_of, digit_value}
use Rattle.reading.specs.Rows.{row_by}
use Rattle.script.specs.Written.{digit_code, hex_of, row_text}

-- each digit that is written is read as its value
abbrev pub DigitsReturn : Type 0
DigitsReturn = (value : ℕ) → value < 16 → digit_value (digit_code value) ≡ Ok value

-- one byte or more, as they are written, are read as they were
abbrev pub BytesReturn : Type 0
BytesReturn = (byte : ℕ) (bytes : List ℕ) → all_below 256 (byte ∷ bytes) ≡ true → bytes_of (hex_of (byte ∷ bytes)) ≡ Ok (byte ∷ bytes)

-- a row that a script may write, as it is written, is read as it was
abbrev pub RowsReturn : Type 0
RowsReturn = (row : List ℕ) → all_below 65536 row ≡ true → length row ≤ 4096 → row_by natural (length row) (row_text row) ≡ Ok row
