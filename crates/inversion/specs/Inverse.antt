-- The inverse of a row modulo 3457 in the ring x^n = x^(n/2) - 1, and when a call for it is refused.
use Rattle.std.specs.Prelude.{◌≡◌, ℕ, cond, ◌||◌, List, length, Some, None, Option, ◌==◌, nat_lt}
use Rattle.ring.specs.Rows.{product, unit}
use Rattle.ring.specs.declared.refusal.Refusal.{Refusal}
use Rattle.ring.specs.declared.refusal.Refusal.TheVariants.{Mismatch, Length}
use Rattle.inversion.specs.Leading.{F, field}

-- u is a row as long as f with u·f = 1
pub record Inverse (f u : List F) : Type 0 where
  pub long : length u ≡ length f
  pub one : product field (length f) u f ≡ unit field (length f)

-- u is the only such row
abbrev pub Only : List F → List F → Type 0
Only f u = (v : List F) → Inverse f v → v ≡ u

-- there is no such row
abbrev pub NoInverseOf : List F → Type 0
NoInverseOf f = (v : List F) → Inverse f v → ⊥

-- the refusal of a row of n and a buffer of some places, before any inverse is sought; or none
abbrev pub refused : ℕ → ℕ → Option Refusal
refused n places = cond (n == 0 || nat_lt 1024 n) (Some Mismatch) (cond (places == n) None (Some Length))
