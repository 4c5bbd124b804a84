-- The power x^3455 modulo 3457, by squaring: the way in which an inverse is computed.
use Rattle.std.specs.Prelude.{ℕ, ◌*◌, ◌%◌, Bool, true, false, List, [], ◌∷◌}

-- the bits of 3455, the highest first
abbrev pub exponent : List Bool
exponent = true ∷ true ∷ false ∷ true ∷ false ∷ true ∷ true ∷ true ∷ true ∷ true ∷ true ∷ true ∷ []

-- one bit: the power is squared, and multiplied by x where the bit is set
abbrev pub rung : ℕ → ℕ → Bool → ℕ
rung x p true = p * p % 3457 * x % 3457
rung x p false = p * p % 3457

-- from the power p on through the bits
unfoldable pub climb : ℕ → ℕ → List Bool → ℕ
climb x p [] = p
climb x p (b ∷ bits) = climb x (rung x p b) bits
