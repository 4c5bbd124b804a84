-- Rows times 1, and why an inverse is the only one.
use Rattle.std.proofs.Common.{◌≡◌, ℕ, suc, ◌<◌, List, [], ◌∷◌, length, sym, ap, ◌∙◌, ap₂, arith}
use lib.ListN.{length-replicate}
use Rattle.ring.specs.Ring.{CommRing}
use Rattle.ring.specs.Rows.{plus, times, add_into, zeros, turn, product, unit}
use Rattle.ring.proofs.Scalars as s
use Rattle.ring.proofs.RowLaws as r
use Rattle.ring.proofs.Products as p
use Rattle.ring.proofs.Steps.{length-add_into}
use Rattle.inversion.specs.Places.{at, Below}
use Rattle.inversion.proofs.Zeros as z

module _ {C : Type 0} (R : CommRing C) (n : ℕ) (some : 0 < n) where
  -- a multiple of a row that is zero from n on, cut to n places
  abbrev pub cut : C → List C → List C
  cut k row = add_into R (zeros R n) k row

  pub length_cut : (k : C) (row : List C) → length (cut k row) ≡ n
  length_cut k row = length-add_into R (zeros R n) k row ∙ length-replicate n R.zero

  room : (row : List C) → Below R n row → Below R (length (zeros R n)) row
  room row h i g = h i (omega (arith, length-replicate n R.zero))

  pub act_cut : (k : C) (row b : List C) → length b ≡ n → Below R n row → product R n (cut k row) b ≡ times R k (product R n row b)
  act_cut k row b l h =
      z.act_add R n some (zeros R n) k row b l (room row h)
      ∙ ap (λ w. plus R w (times R k (product R n row b))) (z.act_zero R n some (zeros R n) b l (z.below-zeros R n))
      ∙ p.zeros-plus R n some _ (r.length-times R k _ ∙ p.length-product R n some row b l)

  -- times 1, a row that is zero from n on keeps its places
  pub at_unit : (row : List C) → Below R n row → (i : ℕ) → at R (product R n row (unit R n)) i ≡ at R row i
  at_unit row h i =
      let e : product R n row (unit R n) ≡ cut R.one row =
      sym (r.times-one R _) ∙ sym (act_cut R.one row (unit R n) (p.length-unit R n some) h) ∙ p.product-unit R n some _ (length_cut R.one row) in
      ap (λ w. at R w i) e ∙ z.at-add R (zeros R n) R.one row (room row h) i
      ∙ ap₂ R.add (z.below-zeros R n i (omega arith)) (s.one-mul R _) ∙ s.zero-add R _

  -- a row of degree 0 acts as its constant
  pub act_constant : (row b : List C) → length b ≡ n → Below R 1 row → product R n row b ≡ times R (at R row 0) b
  unfolding product
  act_constant [] b l h = sym (r.zero-times R b ∙ ap (zeros R) l)
  act_constant (x ∷ row) b l h =
      ap (λ w. plus R (times R x b) (turn R n w)) (z.act_zero R n some row b l (λ i g. h (suc i) (omega arith)))
      ∙ ap (plus R (times R x b)) (p.turn-zeros R n some)
      ∙ r.plus-zeros R _ n (r.length-times R x b ∙ l)

  -- u·f = 1 = v·f makes u and v the same row
  pub inverse_unique : (f u v : List C) → length f ≡ n → length u ≡ n → length v ≡ n
      → product R n u f ≡ unit R n → product R n v f ≡ unit R n → u ≡ v
  inverse_unique f u v lf lu lv hu hv =
      sym (p.product-unit R n some u lu) ∙ ap (product R n u) (sym hv) ∙ p.product_swap R n some u v f lf ∙ ap (product R n v) hu ∙ p.product-unit R n some v lv

  -- u·f = 1 makes (g·u)·f = g
  pub quotient_times : (f u g : List C) → length f ≡ n → length u ≡ n → length g ≡ n → product R n u f ≡ unit R n → product R n (product R n g u) f ≡ g
  quotient_times f u g lf lu lg h = p.product-assoc R n some g u f lg lu lf ∙ ap (product R n g) h ∙ p.product-unit R n some g lg

  -- w·f = 1 lets no row that is zero from n on, and not zero, have the product zero with f
  pub no_divisor : (f v w : List C) (i : ℕ) → length f ≡ n → Below R n v → (at R v i ≡ R.zero → ⊥)
      → product R n v f ≡ zeros R n → product R n w f ≡ unit R n → ⊥
  no_divisor f v w i lf h not-zero hv hw =
      not-zero (sym (at_unit v h i)
      ∙ ap (λ y. at R y i) (ap (product R n v) (sym hw) ∙ p.product_swap R n some v w f lf ∙ ap (product R n w) hv ∙ p.product_zeros R n some w)
      ∙ z.below-zeros R n i (omega arith))
