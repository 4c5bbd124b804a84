-- A commutative ring, as operations with their laws.
use Rattle.std.specs.Prelude.{◌≡◌}

pub record CommRing (C : Type 0) : Type 0 where
  pub zero : C
  pub one : C
  pub add : C → C → C
  pub neg : C → C
  pub mul : C → C → C
  pub add_comm : (x y : C) → add x y ≡ add y x
  pub add_assoc : (x y z : C) → add (add x y) z ≡ add x (add y z)
  pub add-zero : (x : C) → add x zero ≡ x
  pub add_neg : (x : C) → add x (neg x) ≡ zero
  pub mul_comm : (x y : C) → mul x y ≡ mul y x
  pub mul_assoc : (x y z : C) → mul (mul x y) z ≡ mul x (mul y z)
  pub mul-one : (x : C) → mul x one ≡ x
  pub mul-add : (x y z : C) → mul x (add y z) ≡ add (mul x y) (mul x z)

-- a map that keeps the operations
pub record RingMap {C D : Type 0} (R : CommRing C) (S : CommRing D) (f : C → D) : Type 0 where
  pub zero : f R.zero ≡ S.zero
  pub one : f R.one ≡ S.one
  pub add : (x y : C) → f (R.add x y) ≡ S.add (f x) (f y)
  pub neg : (x : C) → f (R.neg x) ≡ S.neg (f x)
  pub mul : (x y : C) → f (R.mul x y) ≡ S.mul (f x) (f y)
