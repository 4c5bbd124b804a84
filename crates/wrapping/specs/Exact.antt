-- The exact error of a wrapping, before anything is reduced.
use Rattle.std.specs.Prelude.{◌≡◌, ℕ, ◌*◌, ◌/◌, ◌^◌, List, map, length, ℤ, pos, ◌-ℤ◌}
use Rattle.ring.specs.Rows.{plus, times, product}
use Rattle.ring.specs.Integers.{integers}
use Rattle.code.specs.Distances.{squares}
use Rattle.code.specs.Rows.{octet, greatest}
use Rattle.wrapping.specs.Secrets.{secret}
use Rattle.wrapping.specs.Wraps.{sigma, rounded}

-- what rounding adds, 3457 times over: 3457 u - 2^w s
abbrev pub rounding : ℕ → ℕ → ℤ
rounding w s = pos (3457 * rounded w s) -ℤ pos (2 ^ w * s)

-- e is the exact error: 3457 e = 2^w g r + rho f, in whole numbers
pub record Exact (n w : ℕ) (f' g : List ℤ) (h : List ℕ) (r e : List ℤ) : Type 0 where
  pub long : length e ≡ n
  pub whole : times integers (pos 3457) e ≡ plus integers (times integers (pos (2 ^ w)) (product integers n g r)) (product integers n (map (rounding w) (sigma n h r)) (secret f'))

-- the largest squared length of an octet of a row
unfoldable pub loudest : List ℤ → ℕ
loudest e = greatest (λ i. squares (octet e i)) (length e / 8)
