-- What every key meets, keyed or not: rows of 1024 places of which the first n count.
-- At n = 0 all is zero, and that is the unkeyed key.
use Rattle.std.specs.Prelude.{◌≡◌, ℕ, ◌-◌, ◌%◌, ◌≤◌, List, length, take, drop, replicate, ℤ}
use Rattle.ring.specs.Engines.{product_mod}
use Rattle.wrapping.specs.Secrets.{secret, reduced_row}

-- a degree of a key, 0 or one of 16 to 1024
abbrev pub KeyDegree : ℕ → Type 0
KeyDegree n = (n % 16 ≡ 0) × (n ≤ 1024)

-- a row has 1024 places, and those past n are zero
abbrev pub Cut : {X : Type 0} → X → ℕ → List X → Type 0
Cut zero n row = (length row ≡ 1024) × (drop n row ≡ replicate (1024 - n) zero)

-- h times f = 2 f' + 1 is g modulo 3457
abbrev pub Ties : ℕ → List ℤ → List ℤ → List ℕ → Type 0
Ties n f g h = product_mod 3457 n (take n h) (reduced_row 3457 (secret (take n f))) ≡ reduced_row 3457 (take n g)
