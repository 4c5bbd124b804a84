-- Rows of coefficients, and the ring x^n = x^(n/2) - 1 over them.
use Rattle.std.specs.Prelude.{ℕ, ◌-◌, ◌/◌, List, [], ◌∷◌, ◌++◌, length, take, replicate, slice_index_or, slice_set}
use Rattle.ring.specs.Ring.{CommRing}

module _ {C : Type 0} (R : CommRing C) where
  -- the sum of two rows, place by place
  unfoldable pub plus : List C → List C → List C
  plus [] ys = []
  plus (a ∷ xs) [] = []
  plus (a ∷ xs) (b ∷ ys) = R.add a b ∷ plus xs ys

  -- k times a row
  unfoldable pub times : C → List C → List C
  times k [] = []
  times k (a ∷ xs) = R.mul k a ∷ times k xs

  -- a row with k times another added at the places that both have
  unfoldable pub add_into : List C → C → List C → List C
  add_into [] k row = []
  add_into (t ∷ target) k [] = t ∷ target
  add_into (t ∷ target) k (a ∷ row) = R.add t (R.mul k a) ∷ add_into target k row

  abbrev pub zeros : ℕ → List C
  zeros n = replicate n R.zero

  -- the row with t added at place i
  unfoldable pub bump : ℕ → C → List C → List C
  bump i t row = slice_set row i (R.add (slice_index_or row i R.zero) t)

  abbrev pub top : ℕ → List C → C
  top n row = slice_index_or row (n - 1) R.zero

  -- the turn of a row of n is x times it:
  -- each coefficient goes up a place, the top one t falls out, -t stands at 0, and t is added at n/2
  unfoldable pub turn : ℕ → List C → List C
  turn n row = bump (n / 2) (top n row) (R.neg (top n row) ∷ take (n - 1) row)

  -- the turn of a row of any length; a row of no places stays
  abbrev pub turned : List C → List C
  turned [] = []
  turned (a ∷ row) = turn (length (a ∷ row)) (a ∷ row)

  -- the product by Horner's rule: a + x·p times b is a·b + x·(p·b), for a list of any length on the left
  unfoldable pub product : ℕ → List C → List C → List C
  product n [] b = zeros n
  product n (a ∷ p) b = plus (times a b) (turn n (product n p b))

  -- the row of 1
  unfoldable pub unit : ℕ → List C
  unit n = R.one ∷ zeros (n - 1)

  -- x^n - x^(n/2) + 1, which has n + 1 coefficients
  unfoldable pub modulus_row : ℕ → List C
  modulus_row n = bump (n / 2) (R.neg R.one) (unit n) ++ (R.one ∷ [])
