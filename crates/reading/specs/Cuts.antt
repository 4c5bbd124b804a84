-- A text cut at the bytes that separate its parts.
use Rattle.std.specs.Prelude.{ℕ, Bool, cond, ◌&&◌, ◌||◌, List, [], ◌∷◌, Some, None, Option, ◌==◌, nat_le}
use Rattle.std.specs.Borrow.{Bor}
use Rattle.std.specs.Option.{option_map}
use Rattle.reading.specs.declared.pieces.Separator.{Separator}
use Rattle.reading.specs.declared.pieces.Separator.TheVariants.{White, Byte}
use Rattle.reading.specs.declared.pieces.Pieces.{Pieces}

-- white space: a space, and the bytes from a tabulator to a carriage return
abbrev pub white : ℕ → Bool
white byte = byte == 32 || (nat_le 9 byte && nat_le byte 13)

-- whether a byte separates
abbrev pub cuts : Separator → ℕ → Bool
cuts White byte = white byte
cuts (Byte code) byte = byte == code

-- a byte in front of the first of two parts
abbrev pub in_front : ℕ → List ℕ × List ℕ → List ℕ × List ℕ
in_front byte parts = (byte ∷ parts.0, parts.1)

-- what stands before the first byte that separates and after it, if there is one
unfoldable pub split_at : (ℕ → Bool) → List ℕ → Option (List ℕ × List ℕ)
split_at separates [] = None
split_at separates (byte ∷ text) = cond (separates byte) (Some ([], text)) (option_map (in_front byte) (split_at separates text))

-- two parts as lists
abbrev pub both_now : Bor (List ℕ) × Bor (List ℕ) → List ℕ × List ℕ
both_now parts = (parts.0.now, parts.1.now)

-- a byte in front of the first of some parts
abbrev pub onto : ℕ → List (List ℕ) → List (List ℕ)
onto byte [] = []
onto byte (part ∷ parts) = (byte ∷ part) ∷ parts

-- the parts of a text between the bytes that separate
unfoldable pub parts_of : (ℕ → Bool) → List ℕ → List (List ℕ)
parts_of separates [] = [] ∷ []
parts_of separates (byte ∷ text) = cond (separates byte) ([] ∷ parts_of separates text) (onto byte (parts_of separates text))

-- the parts that are still to come
abbrev pub pieces_left : Pieces → List (List ℕ)
pieces_left pieces = elim pieces.rest [ None ↦ [] | Some text ↦ parts_of (cuts pieces.separator) text.now ]

-- the first of a list, if there is one
abbrev pub first : {X : Type 0} → List X → Option X
first [] = None
first (x ∷ xs) = Some x

-- what comes after it
abbrev pub others : {X : Type 0} → List X → List X
others [] = []
others (x ∷ xs) = xs
