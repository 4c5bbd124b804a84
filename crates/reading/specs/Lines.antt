-- The words of a line.
use Rattle.std.specs.Prelude.{ℕ, List, [], ◌∷◌, Ok, Err, Result}
use Rattle.reading.specs.declared.fault.Unread.{Unread}
use Rattle.reading.specs.declared.fault.Unread.TheVariants.{Words as TooManyWords}
use Rattle.reading.specs.declared.words.Words.{Words}
use Rattle.reading.specs.Cuts.{white, parts_of, pieces_left}

-- the parts that are not empty
abbrev pub filled : List (List ℕ) → List (List ℕ)
filled [] = []
filled ([] ∷ parts) = filled parts
filled ((byte ∷ part) ∷ parts) = (byte ∷ part) ∷ filled parts

-- the words of a line stand between white space
abbrev pub words_of : List ℕ → List (List ℕ)
words_of line = filled (parts_of white line)

-- the words that are still to come
abbrev pub words_left : Words → List (List ℕ)
words_left words = filled (pieces_left words.pieces)

-- no word is left
abbrev pub ended : List (List ℕ) → Result (Unit {0}) Unread
ended [] = Ok tt
ended (word ∷ words) = Err TooManyWords
