-- Widths, and the four bits of a word's number.
use Rattle.std.specs.Prelude.{ℕ, ◌-◌, ◌^◌, cond, ◌&&◌, Some, None, Option, nat_le, nat_lt}

-- The radius of a width: half of the number of values that a coefficient has.
unfoldable pub radius : ℕ → ℕ
radius w = 2 ^ (w - 1)

-- A width where it is one of 8 to 11.
abbrev pub offered : ℕ → Option ℕ
offered w = cond (nat_le 8 w && nat_le w 11) (Some w) None

-- A number where it has four bits.
abbrev pub four_bits : ℕ → Option ℕ
four_bits k = cond (nat_lt k 16) (Some k) None
