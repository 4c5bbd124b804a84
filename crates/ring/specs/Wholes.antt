-- Signed whole numbers as residues, and what an engine's product is to the whole-number product.
use Rattle.std.specs.Prelude.{◌≡◌, ℕ, ◌+◌, ◌-◌, ◌%◌, List, map, ℤ, pos, negsuc}
use Rattle.ring.specs.Rows.{product}
use Rattle.ring.specs.Integers.{integers}
use Rattle.ring.specs.Engines.{product_to}

-- the number from 0 to m - 1 that differs from a whole number by a multiple of m
abbrev pub residue : ℕ → ℤ → ℕ
residue m (pos a) = a % m
residue m (negsuc a) = m - 1 - a % m

-- the product of the residues is the residue of the whole-number product, for every modulus last + 1
abbrev pub Wholes : Type 0
Wholes = (last n : ℕ) (a b : List ℤ) → product_to last n (map (residue (last + 1)) a) (map (residue (last + 1)) b) ≡ map (residue (last + 1)) (product integers n a b)
