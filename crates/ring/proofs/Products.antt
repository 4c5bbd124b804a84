-- The product of rows: linear in both, commutative, associative, and the one that the turn fixes.
use Rattle.std.proofs.Common.{◌≡◌, ℕ, zero, suc, ◌+◌, ◌-◌, ◌<◌, List, [], ◌∷◌, ◌++◌, length, get_or, take, sym, refl, ap, ◌∙◌, ap₂, append-nil, arith, length-append, get_or-append-add}
use lib.ListN.{length-replicate, get_or-replicate}
use lib.Seq.{take-append-add}
use Rattle.ring.specs.Ring.{CommRing}
use Rattle.ring.specs.Rows.{plus, times, zeros, turn, product, unit}
use Rattle.ring.proofs.RowLaws as r
use Rattle.ring.proofs.Turns as t

module _ {C : Type 0} (R : CommRing C) (n : ℕ) (some : 0 < n) where
  pub length-zeros : length (zeros R n) ≡ n
  length-zeros = length-replicate n R.zero

  pub length_step : (k : C) (b c : List C) → length b ≡ n → length c ≡ n → length (plus R (times R k b) (turn R n c)) ≡ n
  length_step k b c h g = r.length-plus R _ _ (r.length-times R k b ∙ h ∙ sym (t.length-turn R n c some g)) ∙ r.length-times R k b ∙ h

  pub length-product : (a b : List C) → length b ≡ n → length (product R n a b) ≡ n
  unfolding product
  length-product [] b h = length-zeros
  length-product (x ∷ a) b h = length_step x b (product R n a b) h (length-product a b h)

  pub turn-zeros : turn R n (zeros R n) ≡ zeros R n
  turn-zeros =
      ap (turn R n) (sym (r.times-zeros R R.zero n))
      ∙ t.turn-times R n R.zero (zeros R n)
      ∙ r.zero-times R (turn R n (zeros R n))
      ∙ ap (zeros R) (t.length-turn R n _ some length-zeros)

  pub zeros-plus : (a : List C) → length a ≡ n → plus R (zeros R n) a ≡ a
  zeros-plus a h = r.plus_comm R _ _ ∙ r.plus-zeros R a n h

  -- linear on the right
  pub product-plus : (a b c : List C) → length b ≡ n → length c ≡ n → product R n a (plus R b c) ≡ plus R (product R n a b) (product R n a c)
  unfolding product
  product-plus [] b c h g = sym (r.plus-zeros R _ n length-zeros)
  product-plus (x ∷ a) b c h g =
      ap₂ (plus R) (r.times-plus R x b c) (ap (turn R n) (product-plus a b c h g) ∙ t.turn-plus R n _ _ some (length-product a b h) (length-product a c g))
      ∙ r.plus_medial R _ _ _ _

  pub product-times : (a : List C) (k : C) (b : List C) → product R n a (times R k b) ≡ times R k (product R n a b)
  unfolding product
  product-times [] k b = sym (r.times-zeros R k n)
  product-times (x ∷ a) k b =
      ap₂ (plus R) (r.times_swap R x k b) (ap (turn R n) (product-times a k b) ∙ t.turn-times R n k _)
      ∙ sym (r.times-plus R k _ _)

  pub product-turn : (a b : List C) → length b ≡ n → product R n a (turn R n b) ≡ turn R n (product R n a b)
  unfolding product
  product-turn [] b h = sym turn-zeros
  product-turn (x ∷ a) b h =
      ap₂ (plus R) (sym (t.turn-times R n x b)) (ap (turn R n) (product-turn a b h))
      ∙ sym (t.turn-plus R n _ _ some (r.length-times R x b ∙ h) (t.length-turn R n _ some (length-product a b h)))

  pub product_zeros : (a : List C) → product R n a (zeros R n) ≡ zeros R n
  product_zeros a =
      ap (product R n a) (sym (r.times-zeros R R.zero n))
      ∙ product-times a R.zero (zeros R n)
      ∙ r.zero-times R _
      ∙ ap (zeros R) (length-product a _ length-zeros)

  -- two products by rows come in either order
  pub product_swap : (a b c : List C) → length c ≡ n → product R n a (product R n b c) ≡ product R n b (product R n a c)
  unfolding product
  product_swap [] b c h = sym (product_zeros b)
  product_swap (x ∷ a) b c h =
      ap₂ (plus R) (sym (product-times b x c)) (ap (turn R n) (product_swap a b c h) ∙ sym (product-turn b _ (length-product a c h)))
      ∙ sym (product-plus b _ _ (r.length-times R x c ∙ h) (t.length-turn R n _ some (length-product a c h)))

  -- a row times 1 is the row
  pub length-unit : length (unit R n) ≡ n
  unfolding unit
  length-unit = omega (arith, length-replicate (n - 1) R.zero)

  take-zeros : (m : ℕ) → take m (zeros R (suc m)) ≡ zeros R m
  take-zeros zero = refl
  take-zeros (suc m) = ap {B = List C} (λ w. R.zero ∷ w) (take-zeros m)

  times-unit : (x : C) → times R x (unit R n) ≡ x ∷ zeros R (n - 1)
  unfolding times unit
  times-unit x = ap₂ {C = List C} ◌∷◌ (R.mul-one x) (r.times-zeros R x (n - 1))

  turn_part : (a : List C) (m : ℕ) → n - 1 ≡ length a + m → turn R n (a ++ zeros R (suc m)) ≡ R.zero ∷ (a ++ zeros R m)
  turn_part a m e =
      t.turn_low R n _ (ap (λ i. get_or (a ++ zeros R (suc m)) i R.zero) e ∙ get_or-append-add a _ m R.zero ∙ get_or-replicate (suc m) m _ _ (omega arith))
      ∙ ap {B = List C} (λ w. R.zero ∷ w) (ap (λ i. take i (a ++ zeros R (suc m))) e ∙ take-append-add a _ m ∙ ap (λ w. a ++ w) (take-zeros m))

  step : (x : C) (b : List C) → length b ≡ n - 1 → plus R (x ∷ zeros R (n - 1)) (R.zero ∷ b) ≡ x ∷ b
  unfolding plus
  step x b h = ap₂ {C = List C} ◌∷◌ (R.add-zero x) (r.plus_comm R (zeros R (n - 1)) b ∙ r.plus-zeros R b (n - 1) h)

  pub product-unit_part : (a : List C) (m : ℕ) → length a + m ≡ n → product R n a (unit R n) ≡ a ++ zeros R m
  unfolding product
  product-unit_part [] m h = ap (zeros R) (omega arith)
  product-unit_part (x ∷ a) m h =
      ap₂ (plus R) (times-unit x) (ap (turn R n) (product-unit_part a (suc m) (omega arith)) ∙ turn_part a m (omega arith))
      ∙ step x (a ++ zeros R m) (omega (arith, length-append a (zeros R m), length-replicate m R.zero))

  pub product-unit : (a : List C) → length a ≡ n → product R n a (unit R n) ≡ a
  product-unit a h = product-unit_part a 0 (omega arith) ∙ append-nil a

  pub product-comm : (a b : List C) → length a ≡ n → length b ≡ n → product R n a b ≡ product R n b a
  product-comm a b h g =
      ap (product R n a) (sym (product-unit b g)) ∙ product_swap a b (unit R n) length-unit ∙ ap (product R n b) (product-unit a h)

  pub product-assoc : (a b c : List C) → length a ≡ n → length b ≡ n → length c ≡ n → product R n (product R n a b) c ≡ product R n a (product R n b c)
  product-assoc a b c h g k =
      product-comm _ c (length-product a b g) k ∙ product_swap c a b g ∙ ap (product R n a) (product-comm c b k g)

  pub turn-product : (a b : List C) → length a ≡ n → length b ≡ n → product R n (turn R n a) b ≡ turn R n (product R n a b)
  turn-product a b h g =
      product-comm _ b (t.length-turn R n a some h) g ∙ product-turn b a h ∙ ap (turn R n) (product-comm b a g h)

  pub unit-product : (b : List C) → length b ≡ n → product R n (unit R n) b ≡ b
  unit-product b h = product-comm _ b length-unit h ∙ product-unit b h

  pub plus-product : (a b c : List C) → length a ≡ n → length b ≡ n → length c ≡ n → product R n (plus R a b) c ≡ plus R (product R n a c) (product R n b c)
  plus-product a b c h g k =
      product-comm _ c (r.length-plus R a b (h ∙ sym g) ∙ h) k ∙ product-plus c a b h g ∙ ap₂ (plus R) (product-comm c a k h) (product-comm c b k g)

  pub times-product : (j : C) (a b : List C) → length a ≡ n → length b ≡ n → product R n (times R j a) b ≡ times R j (product R n a b)
  times-product j a b h g =
      product-comm _ b (r.length-times R j a ∙ h) g ∙ product-times b j a ∙ ap (times R j) (product-comm b a g h)

  -- whatever keeps sums, multiples, 1 and the turn on its left is the product
  module _
      (f : List C → List C → List C)
      (f-plus : (a b c : List C) → length a ≡ n → length b ≡ n → length c ≡ n → f (plus R a b) c ≡ plus R (f a c) (f b c))
      (f-times : (j : C) (a c : List C) → length a ≡ n → length c ≡ n → f (times R j a) c ≡ times R j (f a c))
      (f-unit : (c : List C) → length c ≡ n → f (unit R n) c ≡ c)
      (f-turn : (a c : List C) → length a ≡ n → length c ≡ n → f (turn R n a) c ≡ turn R n (f a c))
    where
      only_part : (a c : List C) → length c ≡ n → f (product R n a (unit R n)) c ≡ product R n a c
      unfolding product
      only_part [] c g =
          ap (λ w. f w c) (sym (r.zero-times R (unit R n) ∙ ap (zeros R) length-unit))
          ∙ f-times R.zero (unit R n) c length-unit g
          ∙ r.zero-times R _
          ∙ ap (zeros R) (ap length (f-unit c g) ∙ g)
      only_part (x ∷ a) c g =
          let l : length (product R n a (unit R n)) ≡ n = length-product a _ length-unit in
          f-plus _ _ c (r.length-times R x _ ∙ length-unit) (t.length-turn R n _ some l) g
          ∙ ap₂ (plus R) (f-times x _ c length-unit g ∙ ap (times R x) (f-unit c g)) (f-turn _ c l g ∙ ap (turn R n) (only_part a c g))

      pub only-product : (a c : List C) → length a ≡ n → length c ≡ n → f a c ≡ product R n a c
      only-product a c h g = ap (λ w. f w c) (sym (product-unit a h)) ∙ only_part a c g
