-- A whole number in any commutative ring.
use Rattle.std.specs.Prelude.{ℕ, zero, suc, ℤ, pos, negsuc}
use Rattle.ring.specs.Ring.{CommRing}

module _ {C : Type 0} (R : CommRing C) where
  -- 1 + .. + 1
  unfoldable pub count : ℕ → C
  count zero = R.zero
  count (suc n) = R.add (count n) R.one

  unfoldable pub image : ℤ → C
  image (pos n) = count n
  image (negsuc n) = R.neg (count (suc n))
