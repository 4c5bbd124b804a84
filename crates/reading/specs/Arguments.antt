-- The arguments of a command, read from the words of its line.
use Rattle.std.specs.Prelude.{ℕ, List, [], ◌∷◌, Some, None, Ok, Err, Option, Result}
use Rattle.std.specs.Option.{option_map, unwrap_or}
use Rattle.reading.specs.declared.fault.Fault.{Fault}
use Rattle.reading.specs.declared.fault.Fault.TheVariants.{Unread as NotRead}
use Rattle.reading.specs.declared.fault.Unread.{Unread}
use Rattle.reading.specs.declared.fault.Unread.TheVariants.{Words as TooFewWords}
use Rattle.reading.specs.declared.words.Words.{Words}
use Rattle.reading.specs.Lines.{words_left}
use Rattle.reading.specs.Lengths.{buffer_for}
use Rattle.reading.specs.Memory.{faulty}
use Rattle.reading.specs.Numerals.{number_of}
use Rattle.reading.specs.Steps.{then, seen}

-- what reads something from the words that are left, and leaves the others
abbrev pub Reader : Type 0 → Type 0
Reader X = List (List ℕ) → Result (X × List (List ℕ)) Fault

-- what was read, seen in another way, with the words that are left then
abbrev pub leaving : {X Y : Type 0} → (X → Y) → Words → Result X Fault → Result (Y × List (List ℕ)) Fault
leaving view after answer = seen (λ x. (view x, words_left after)) answer

-- the next word, read as it is to be
abbrev pub argument : {X : Type 0} → (List ℕ → Result X Unread) → Reader X
argument read [] = Err (NotRead TooFewWords)
argument read (word ∷ words) = then (faulty (read word)) (λ x. Ok (x, words))

-- a number, if the line gives one
abbrev pub number_if_any : Reader (Option ℕ)
number_if_any [] = Ok (None, [])
number_if_any (word ∷ words) = then (faulty (number_of word)) (λ n. Ok (Some n, words))

-- the length of a buffer, if the line gives one
abbrev pub length_if_any : Reader (Option ℕ)
length_if_any words = then (number_if_any words) (λ p. Ok (option_map buffer_for p.0, p.1))

-- the length of a buffer, which is the right one where the line gives none
abbrev pub length_or : ℕ → Reader ℕ
length_or right words = then (length_if_any words) (λ p. Ok (unwrap_or p.0 (buffer_for right), p.1))

-- one thing after another
abbrev pub next : {X Y : Type 0} → Reader X → (X → Reader Y) → Reader Y
next reader rest words = then (reader words) (λ p. rest p.0 p.1)

-- nothing is read for what is known already
abbrev pub known : {X : Type 0} → Result X Fault → Reader X
known answer words = then answer (λ x. Ok (x, words))
