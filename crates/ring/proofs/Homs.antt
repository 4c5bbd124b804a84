-- A map of rings takes products of rows to products of rows.
use Rattle.std.proofs.Common.{◌≡◌, ℕ, zero, suc, ◌-◌, ◌/◌, List, [], ◌∷◌, map, get_or, take, set, sym, refl, ap, ◌∙◌, ap₂}
use lib.ListN.{get_or-map}
use lib.Seq.{map-set}
use Rattle.ring.specs.Ring.{CommRing}
use Rattle.ring.specs.Rows.{plus, times, zeros, bump, top, turn, product}

module _ {C D : Type 0} (R : CommRing C) (S : CommRing D) (f : C → D)
    (f_zero : f R.zero ≡ S.zero)
    (f-add : (x y : C) → f (R.add x y) ≡ S.add (f x) (f y))
    (f-neg : (x : C) → f (R.neg x) ≡ S.neg (f x))
    (f-mul : (x y : C) → f (R.mul x y) ≡ S.mul (f x) (f y)) where
  map-plus : (a b : List C) → map f (plus R a b) ≡ plus S (map f a) (map f b)
  unfolding plus
  map-plus [] b = refl
  map-plus (x ∷ a) [] = refl
  map-plus (x ∷ a) (y ∷ b) = ap₂ {C = List D} ◌∷◌ (f-add x y) (map-plus a b)

  map-times : (k : C) (a : List C) → map f (times R k a) ≡ times S (f k) (map f a)
  unfolding times
  map-times k [] = refl
  map-times k (x ∷ a) = ap₂ {C = List D} ◌∷◌ (f-mul k x) (map-times k a)

  map-zeros : (n : ℕ) → map f (zeros R n) ≡ zeros S n
  map-zeros zero = refl
  map-zeros (suc n) = ap₂ {C = List D} ◌∷◌ f_zero (map-zeros n)

  map-take : (n : ℕ) (a : List C) → map f (take n a) ≡ take n (map f a)
  map-take zero a = refl
  map-take (suc n) [] = refl
  map-take (suc n) (x ∷ a) = ap {B = List D} (λ w. f x ∷ w) (map-take n a)

  at : (a : List C) (i : ℕ) → f (get_or a i R.zero) ≡ get_or (map f a) i S.zero
  at a i = sym (get_or-map f a i R.zero) ∙ ap (get_or (map f a) i) f_zero

  map-bump : (i : ℕ) (t : C) (a : List C) → map f (bump R i t a) ≡ bump S i (f t) (map f a)
  unfolding bump
  map-bump i t a = map-set f a i _ ∙ ap (set (map f a) i) (f-add _ t ∙ ap (λ w. S.add w (f t)) (at a i))

  pub map-turn : (n : ℕ) (a : List C) → map f (turn R n a) ≡ turn S n (map f a)
  unfolding turn
  map-turn n a =
      map-bump (n / 2) (top R n a) (R.neg (top R n a) ∷ take (n - 1) a)
      ∙ ap₂ (λ u w. bump S (n / 2) (f (top R n a)) (u ∷ w)) (f-neg (top R n a)) (map-take (n - 1) a)
      ∙ ap (λ u. bump S (n / 2) u (S.neg u ∷ take (n - 1) (map f a))) (at a (n - 1))

  pub map-product : (n : ℕ) (a b : List C) → map f (product R n a b) ≡ product S n (map f a) (map f b)
  unfolding product
  map-product n [] b = map-zeros n
  map-product n (x ∷ a) b =
      map-plus _ _ ∙ ap₂ (plus S) (map-times x b) (map-turn n _ ∙ ap (turn S n) (map-product n a b))
