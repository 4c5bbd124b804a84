-- How a wrapping at the width w is shortened to the width w - 1.
use Rattle.std.specs.Prelude.{ℕ, ◌+◌, ◌-◌, ◌/◌, ◌%◌, ◌^◌, List, [], map, ℤ}
use Rattle.code.specs.Rows.{farthest}
use Rattle.code.specs.Roots.{root_up}
use Rattle.wrapping.specs.Wraps.{measured}

-- half of a coefficient, a half going up, modulo 2^(w - 1)
unfoldable pub halved : ℕ → ℕ → ℕ
halved w c = (c + 1) / 2 % 2 ^ (w - 1)

-- what halving adds, twice over: 1 where the coefficient was odd
abbrev pub halving : ℕ → ℕ
halving c = c % 2

-- the largest length of an octet of the halving times f, rounded up; an empty message has the zero word everywhere
unfoldable pub trim_loss : ℕ → ℕ → List ℤ → List ℕ → ℕ
trim_loss n w f' c = root_up (farthest w (measured n f' (map halving c)) [])

-- half of the sum of the allowance and the loss, rounded up
unfoldable pub trimmed_allowance : ℕ → ℕ → ℕ
trimmed_allowance old loss = (old + loss + 1) / 2
