-- The square root of a whole number, rounded up.
use Rattle.std.specs.Prelude.{ℕ, zero, suc, ◌*◌, ◌<◌, ◌≤◌, cond, nat_le}

-- k where its square reaches s, else the next number.
abbrev pub reaching : ℕ → ℕ → ℕ
reaching s k = cond (nat_le s (k * k)) k (suc k)

-- The root of s rounded up, from that of the number before.
unfoldable pub root_up : ℕ → ℕ
root_up zero = 0
root_up (suc s) = reaching (suc s) (root_up s)

-- r is the least whole number whose square is at least s.
pub record LeastRoot (s r : ℕ) : Type 0 where
  pub enough : s ≤ r * r
  pub least : (j : ℕ) → j < r → j * j < s
