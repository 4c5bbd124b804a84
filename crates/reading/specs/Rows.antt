-- A row as a script writes it, from its terms.
use Rattle.std.specs.Prelude.{ℕ, ◌+◌, cond, List, [], ◌∷◌, length, replicate, ℤ, pos, Some, None, Ok, Err, codes, Option, Result, nat_lt, slice_set}
use Rattle.std.specs.Str.{bytes_eq}
use Rattle.reading.specs.declared.fault.Unread.{Unread}
use Rattle.reading.specs.declared.fault.Unread.TheVariants.{Row}
use Rattle.reading.specs.declared.pieces.Separator.{Separator}
use Rattle.reading.specs.declared.pieces.Separator.TheVariants.{Byte}
use Rattle.reading.specs.Cuts.{cuts, split_at, parts_of}
use Rattle.reading.specs.Numerals.{number_of, signed_of}
use Rattle.reading.specs.Steps.{then}

-- what stands between two terms
abbrev pub comma : Separator
comma = Byte 44

-- what stands between a place and its value
abbrev pub colon : Separator
colon = Byte 58

-- what stands between a length and the terms
abbrev pub slash : Separator
slash = Byte 47

-- a row with a value at one of its places
abbrev pub put_at : ℕ → ℤ → List ℤ → Result (List ℤ) Unread
put_at place value row = cond (nat_lt place (length row)) (Ok (slice_set row place value)) (Err Row)

-- a row with a value at the place that a term names, where `*` names every place
abbrev pub named_at : List ℕ → ℤ → List ℤ → Result (List ℤ) Unread
named_at place value row =
    cond (bytes_eq place (codes "*")) (Ok (replicate (length row) value)) (then (number_of place) (λ n. put_at n value row))

-- the next place and the row after a term, by its place and its value, if it names a place
abbrev pub term_by : Option (List ℕ × List ℕ) → ℕ → List ℤ → List ℕ → Result (ℕ × List ℤ) Unread
term_by (Some parts) next row text = then (signed_of parts.1) (λ value. then (named_at parts.0 value row) (λ new. Ok (next, new)))
term_by None next row text = then (signed_of text) (λ value. then (put_at next value row) (λ new. Ok (next + 1, new)))

-- the next place and the row after a term
abbrev pub term_of : ℕ → List ℤ → List ℕ → Result (ℕ × List ℤ) Unread
term_of next row text = term_by (split_at (cuts colon) text) next row text

-- the row after terms
abbrev pub terms_of : ℕ → List ℤ → List (List ℕ) → Result (List ℤ) Unread
terms_of next row [] = Ok row
terms_of next row (text ∷ texts) = then (term_of next row text) (λ p. terms_of p.0 p.1 texts)

-- the length and the terms of a row, by what stands before and after the slash, if it has one
abbrev pub head_by : Option (List ℕ × List ℕ) → ℕ → List ℕ → Result (ℕ × List ℕ) Unread
head_by (Some parts) degree text = then (number_of parts.0) (λ n. Ok (n, parts.1))
head_by None degree text = Ok (degree, text)

-- the length and the terms of a row, which has `degree` places where no length is written
abbrev pub head_of : ℕ → List ℕ → Result (ℕ × List ℕ) Unread
head_of degree text = head_by (split_at (cuts slash) text) degree text

-- a row of a length from its terms
abbrev pub body_of : ℕ → List ℕ → Result (List ℤ) Unread
body_of n terms =
    cond (nat_lt 4096 n) (Err Row)
    (cond (bytes_eq terms (codes "-")) (Ok (replicate n (pos 0))) (terms_of 0 (replicate n (pos 0)) (parts_of (cuts comma) terms)))

-- a row of `degree` places, or of the length that it is written with
abbrev pub row_of : ℕ → List ℕ → Result (List ℤ) Unread
row_of degree text = then (head_of degree text) (λ head. body_of head.0 head.1)

-- each number as a coefficient
unfoldable pub each : {X Y : Type 0} → (X → Result Y Unread) → List X → Result (List Y) Unread
each read [] = Ok []
each read (x ∷ xs) = then (read x) (λ y. then (each read xs) (λ ys. Ok (y ∷ ys)))

-- a row of coefficients of one kind
abbrev pub row_by : {X : Type 0} → (ℤ → Result X Unread) → ℕ → List ℕ → Result (List X) Unread
row_by read degree text = then (row_of degree text) (each read)
