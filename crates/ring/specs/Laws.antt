-- What is claimed of the product of rows, for one kind of coefficient and one n.
use Rattle.std.specs.Prelude.{◌≡◌, ℕ, ◌<◌, List, map, length, ℤ}
use Rattle.ring.specs.Ring.{CommRing, RingMap}
use Rattle.ring.specs.Rows.{plus, times, zeros, turn, product, unit, modulus_row}
use Rattle.ring.specs.Integers.{integers}
use Rattle.ring.specs.Images.{image}

-- the laws that fix a product of rows of n: one, turn, and linearity in the left operand
pub record Keeps {C : Type 0} (R : CommRing C) (n : ℕ) (f : List C → List C → List C) : Type 0 where
  pub one : (b : List C) → length b ≡ n → f (unit R n) b ≡ b
  pub turns : (a b : List C) → length a ≡ n → length b ≡ n → f (turn R n a) b ≡ turn R n (f a b)
  pub sums : (a b c : List C) → length a ≡ n → length b ≡ n → length c ≡ n → f (plus R a b) c ≡ plus R (f a c) (f b c)
  pub multiples : (k : C) (a b : List C) → length a ≡ n → length b ≡ n → f (times R k a) b ≡ times R k (f a b)

pub record ProductLaws {C : Type 0} (R : CommRing C) (n : ℕ) : Type 0 where
  -- the product of two rows of n is a row of n
  pub long : (a b : List C) → length b ≡ n → length (product R n a b) ≡ n
  -- the product keeps the laws, and nothing else does
  pub keeps : Keeps R n (product R n)
  pub only : (f : List C → List C → List C) → Keeps R n f → (a b : List C) → length a ≡ n → length b ≡ n → f a b ≡ product R n a b
  pub comm : (a b : List C) → length a ≡ n → length b ≡ n → product R n a b ≡ product R n b a
  pub assoc : (a b c : List C) → length a ≡ n → length b ≡ n → length c ≡ n → product R n (product R n a b) c ≡ product R n a (product R n b c)
  -- a ring map from the whole numbers carries products to products, and there is one
  pub carries : (f : ℤ → C) → RingMap integers R f → (a b : List ℤ) → map f (product integers n a b) ≡ product R n (map f a) (map f b)
  pub maps : RingMap integers R (image R)
  -- x^n - x^(n/2) + 1 acts as zero
  pub vanishes : (b : List C) → length b ≡ n → product R n (modulus_row R n) b ≡ zeros R n

-- the same for every n
abbrev pub Laws : {C : Type 0} → CommRing C → Type 0
Laws R = (n : ℕ) → 0 < n → ProductLaws R n

-- a ring map between any two kinds carries products to products
abbrev pub Carries : {C D : Type 0} → CommRing C → CommRing D → Type 0
Carries {C} {D} R S = (f : C → D) → RingMap R S f → (n : ℕ) (a b : List C) → map f (product R n a b) ≡ product S n (map f a) (map f b)
