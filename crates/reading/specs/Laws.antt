-- What is written can be read, and the words of a text are texts.
use Rattle.std.specs.Prelude.{◌≡◌, ℕ, ◌^◌, ◌<◌, List, pos, Ok, decimal}
use Rattle.std.specs.List.{All}
use Rattle.std.specs.Str.{IsUtf8}
use Rattle.reading.specs.Lines.{words_of}
use Rattle.reading.specs.Numerals.{number_of, width_of, signed_of}

-- a number, as it is written, is read as it was
pub record NumbersReturn : Type 0 where
  pub number : (n : ℕ) → n < 2 ^ 64 → number_of (decimal n) ≡ Ok n
  pub width : (n : ℕ) → n < 2 ^ 32 → width_of (decimal n) ≡ Ok n
  pub signed : (n : ℕ) → n < 2 ^ 31 → signed_of (decimal n) ≡ Ok (pos n)

-- each word of a line that is text is text
abbrev pub WordsAreText : Type 0
WordsAreText = (line : List ℕ) → IsUtf8 line → All IsUtf8 (words_of line)
