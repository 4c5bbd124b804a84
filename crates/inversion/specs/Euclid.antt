-- Euclid's remainder sequence modulo 3457.
use Rattle.std.specs.Prelude.{ℕ, zero, suc, ◌-◌, cond, List, [], ◌∷◌, ◌++◌, is_some, Some, None, Option}
use Rattle.ring.specs.Residues.{reduced}
use Rattle.ring.specs.Rows.{zeros, modulus_row}
use Rattle.ring.specs.Powers.{climb, exponent}
use Rattle.inversion.specs.Places.{at}
use Rattle.inversion.specs.Leading.{F, field, leading}
use Rattle.inversion.specs.Division.{divided, along}

-- the inverse of a residue other than zero, which is its power 3455
unfoldable pub reciprocal : F → F
reciprocal x = reduced 3456 (climb x.value 1 exponent)

-- the remainder of a by b by long division, from the leading places of both; a itself where either is zero
abbrev pub remainder_at : List F → List F → Option ℕ → Option ℕ → List F
remainder_at a b None q = a
remainder_at a b (Some p) None = a
remainder_at a b (Some p) (Some q) = divided field a b (reciprocal (at field b q)) q (suc p - q)

unfoldable pub remainder : List F → List F → List F
remainder a b = remainder_at a b (leading a) (leading b)

-- the cofactor of that remainder, from the cofactors u of a and v of b
abbrev pub cofactor_at : List F → List F → List F → List F → Option ℕ → Option ℕ → List F
cofactor_at a u b v None q = u
cofactor_at a u b v (Some p) None = u
cofactor_at a u b v (Some p) (Some q) = along field a u b v (reciprocal (at field b q)) q (suc p - q)

unfoldable pub cofactor : List F → List F → List F → List F → List F
cofactor a u b v = cofactor_at a u b v (leading a) (leading b)

-- the first k members at most of the remainder sequence that goes on from a and b; it ends before the zero
unfoldable pub sequence : ℕ → List F → List F → List (List F)
sequence zero a b = []
sequence (suc k) a b = cond (is_some (leading b)) (b ∷ sequence k b (remainder a b)) []

-- the remainder sequence of x^n - x^(n/2) + 1 and a row f of n: f and all that follow it but the zero, as rows of n + 1.
-- Degrees fall, so it has n members at most
unfoldable pub remainders : ℕ → List F → List (List F)
remainders n f = sequence n (modulus_row field n) (f ++ zeros field 1)

-- the last member of a list of rows, or the given row where it has none
unfoldable pub last_of : List F → List (List F) → List F
last_of row [] = row
last_of row (next ∷ rest) = last_of next rest
