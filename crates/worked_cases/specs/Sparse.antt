-- Rows of sixteen places, of which few are not zero.
use Rattle.std.specs.Prelude.{ℕ, List, [], ◌∷◌, replicate, ℤ, pos, slice_set}

-- some values at their places, zero elsewhere
abbrev pub sparse : {X : Type 0} → X → List (ℕ × X) → List X
sparse zero [] = replicate 16 zero
sparse zero (p ∷ rest) = slice_set (sparse zero rest) p.0 p.1

-- natural numbers at their places
abbrev pub numbers_at : List (ℕ × ℕ) → List ℕ
numbers_at ps = sparse 0 ps

-- whole numbers at their places
abbrev pub wholes_at : List (ℕ × ℤ) → List ℤ
wholes_at ps = sparse (pos 0) ps
