-- What std parses of a text, and that it is what the readers of numbers answer.
use Rattle.std.specs.Prelude.{◌≡◌, ℕ, List, ℤ, Ok, Err, Result, MatchResult, ◌⊎◌}
use Rattle.std.specs.Int.{w32}
use Rattle.std.specs.Str.{IsUtf8}
use Rattle.std.specs.Str.Parse.{ParsesUnsigned, ParsesSigned, ExplainsUnsignedError, ExplainsSignedError, HasUnsignedDigitsIfOk, HasSignedDigitsIfOk}
use Rattle.std.specs.declared.num.ParseIntError.{ParseIntError}
use Rattle.reading.specs.declared.fault.Unread.{Unread}
use Rattle.reading.specs.declared.fault.Unread.TheVariants.{Number}
use Rattle.reading.specs.Numerals.{number_of, width_of, signed_of}

-- what std gives for an unsigned number of k bits
abbrev pub GivesUnsigned : ℕ → List ℕ → Result ℕ ParseIntError → Type 0
GivesUnsigned k bs q = ParsesUnsigned k 10 bs q × ExplainsUnsignedError 10 bs q × HasUnsignedDigitsIfOk bs q

-- what std gives for a signed number of 32 bits
abbrev pub GivesSigned : List ℕ → Result ℤ ParseIntError → Type 0
GivesSigned bs q = ParsesSigned w32 10 bs q × ExplainsSignedError 10 bs q × HasSignedDigitsIfOk bs q

-- what std gives for a text that is text, as the answer for the bytes; bytes that are no text are no number
abbrev pub Parsed : {T E : Type 0} → (List ℕ → Result T E → Type 0) → List ℕ → Result T Unread → Type 0
Parsed {T} {E} gives text r = MatchResult r (λ n. gives text (Ok n)) (λ e. (e ≡ Number) × (¬ (IsUtf8 text) ⊎ ((error : E) × gives text (Err error))))

-- a number is read as std parses it
pub record NumbersParse : Type 0 where
  pub number : (text : List ℕ) (r : Result ℕ Unread) → Parsed (GivesUnsigned 64) text r → r ≡ number_of text
  pub width : (text : List ℕ) (r : Result ℕ Unread) → Parsed (GivesUnsigned 32) text r → r ≡ width_of text
  pub signed : (text : List ℕ) (r : Result ℤ Unread) → Parsed GivesSigned text r → r ≡ signed_of text
