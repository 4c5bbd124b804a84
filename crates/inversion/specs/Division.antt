-- Long division of rows, and what it does to the cofactors of the two rows.
use Rattle.std.specs.Prelude.{ℕ, zero, suc, ◌+◌, List, ◌++◌}
use Rattle.ring.specs.Ring.{CommRing}
use Rattle.ring.specs.Rows.{add_into, zeros}
use Rattle.inversion.specs.Places.{at}

module _ {C : Type 0} (R : CommRing C) where
  -- a row with k·x^s times another added, at the places that it has
  abbrev pub add_shifted : List C → C → ℕ → List C → List C
  add_shifted target k s row = add_into R target k (zeros R s ++ row)

  -- what times x^s·b clears place q + s of a, where b leads at q and c is the inverse of its leading coefficient
  abbrev pub factor : List C → C → ℕ → ℕ → C
  factor a c q s = R.neg (R.mul (at R a (q + s)) c)

  -- places q + s - 1 down to q of a are cleared by multiples of b
  unfoldable pub divided : List C → List C → C → ℕ → ℕ → List C
  divided a b c q zero = a
  divided a b c q (suc s) = divided (add_shifted a (factor a c q s) s b) b c q s

  -- the cofactor u of a then, with the same multiples of the cofactor v of b
  unfoldable pub along : List C → List C → List C → List C → C → ℕ → ℕ → List C
  along a u b v c q zero = u
  along a u b v c q (suc s) = along (add_shifted a (factor a c q s) s b) (add_shifted u (factor a c q s) s v) b v c q s
