-- The fold of a whole number: the one from -r to r - 1 that differs from it by a multiple of 2 r.
use Rattle.std.specs.Prelude.{◌≡◌, ℕ, ◌+◌, ◌*◌, cond, ℤ, pos, ◌+ℤ◌, ◌-ℤ◌, neg_ℤ, ◌≤ℤ◌, ◌<ℤ◌, nat_lt, unsigned_abs}
use Rattle.std.specs.Int.{int_rem_euclid}

-- The remainder modulo 2 r, from 0 to 2 r - 1.
unfoldable pub rest : ℕ → ℤ → ℕ
rest r z = unsigned_abs (int_rem_euclid z (pos (r + r)))

-- The remainder itself below r, else the remainder less 2 r.
unfoldable pub fold : ℕ → ℤ → ℤ
fold r z = cond (nat_lt (rest r z) r) (pos (rest r z)) (pos (rest r z) -ℤ pos (r + r))

-- Two whole numbers that differ by a multiple of n.
pub record Same (n : ℕ) (a b : ℤ) : Type 0 where
  pub here : ℕ
  pub there : ℕ
  pub tie : a +ℤ pos (here * n) ≡ b +ℤ pos (there * n)

-- A whole number from -r to r - 1.
pub record Folded (r : ℕ) (f : ℤ) : Type 0 where
  pub low : neg_ℤ (pos r) ≤ℤ f
  pub high : f <ℤ pos r
