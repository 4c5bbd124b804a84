-- Rows that are zero from some place on: their sums, their shifts and what they do as factors.
use Rattle.std.proofs.Common.{◌≡◌, ℕ, zero, suc, ◌+◌, ◌-◌, ◌<◌, ◌≤◌, List, [], ◌∷◌, ◌++◌, length, sym, refl, ap, ◌∙◌, ap₂, arith}
use Rattle.ring.specs.Ring.{CommRing}
use Rattle.ring.specs.Rows.{plus, times, add_into, zeros, turn, product}
use Rattle.ring.proofs.Scalars as s
use Rattle.ring.proofs.RowLaws as r
use Rattle.ring.proofs.Turns as t
use Rattle.ring.proofs.Products as p
use Rattle.ring.proofs.Actions as a
use Rattle.inversion.specs.Places.{at, Below}

module _ {C : Type 0} (R : CommRing C) where
  -- a product of zero and a sum with it
  nothing_added : (x k : C) → x ≡ R.add x (R.mul k R.zero)
  nothing_added x k = sym (R.add-zero x) ∙ ap (R.add x) (sym (s.mul-zero R k))

  -- the places of a row with a multiple of another added
  pub at-add : (target : List C) (k : C) (row : List C) → Below R (length target) row → (i : ℕ)
      → at R (add_into R target k row) i ≡ R.add (at R target i) (R.mul k (at R row i))
  unfolding add_into
  at-add [] k row h i = nothing_added R.zero k ∙ ap (λ w. R.add R.zero (R.mul k w)) (sym (h i (omega arith)))
  at-add (x ∷ target) k [] h i = nothing_added (at R (x ∷ target) i) k
  at-add (x ∷ target) k (y ∷ row) h zero = refl
  at-add (x ∷ target) k (y ∷ row) h (suc i) = at-add target k row (λ j g. h (suc j) (omega arith)) i

  -- s zeros before a row move its places up by s
  pub at_shifted : (s : ℕ) (row : List C) (i : ℕ) → at R (zeros R s ++ row) (s + i) ≡ at R row i
  at_shifted zero row i = let e : 0 + i ≡ i = omega arith in ap (at R row) e
  at_shifted (suc s) row i =
      let e : suc s + i ≡ suc (s + i) = omega arith in
      ap (at R (R.zero ∷ (zeros R s ++ row))) e ∙ at_shifted s row i

  pub below_shifted : (s p : ℕ) (row : List C) → Below R p row → Below R (s + p) (zeros R s ++ row)
  below_shifted s p row h i g =
      let e : i ≡ s + (i - s) = omega arith in
      ap (at R (zeros R s ++ row)) e ∙ at_shifted s row (i - s) ∙ h (i - s) (omega arith)

  pub below_more : (p q : ℕ) (row : List C) → p ≤ q → Below R p row → Below R q row
  below_more p q row l h i g = h i (omega arith)

  -- zeros
  pub below-zeros : (n : ℕ) → Below R 0 (zeros R n)
  below-zeros zero i h = refl
  below-zeros (suc n) zero h = refl
  below-zeros (suc n) (suc i) h = below-zeros n i (omega arith)

module _ {C : Type 0} (R : CommRing C) (n : ℕ) (some : 0 < n) where
  -- a row of zeros acts as zero
  pub act_zero : (row b : List C) → length b ≡ n → Below R 0 row → product R n row b ≡ zeros R n
  unfolding product
  act_zero [] b l h = refl
  act_zero (x ∷ row) b l h =
      ap (λ w. product R n (w ∷ row) b) (h 0 (omega arith)) ∙ a.act_shift R n some row b l
      ∙ ap (turn R n) (act_zero row b l (λ i g. h (suc i) (omega arith))) ∙ p.turn-zeros R n some

  -- a sum with a multiple acts as such a sum
  pub act_add : (target : List C) (k : C) (row b : List C) → length b ≡ n → Below R (length target) row
      → product R n (add_into R target k row) b ≡ plus R (product R n target b) (times R k (product R n row b))
  unfolding add_into product
  act_add [] k row b l h =
      sym (ap (λ w. plus R (zeros R n) (times R k w)) (act_zero row b l (λ i g. h i (omega arith)))
      ∙ ap (plus R (zeros R n)) (r.times-zeros R k n) ∙ r.plus-zeros R (zeros R n) n (p.length-zeros R n some))
  act_add (x ∷ target) k [] b l h =
      sym (ap (plus R (product R n (x ∷ target) b)) (r.times-zeros R k n) ∙ r.plus-zeros R _ n (p.length-product R n some (x ∷ target) b l))
  act_add (x ∷ target) k (y ∷ row) b l h =
      let u = product R n target b in
      let v = product R n row b in
      let lu : length u ≡ n = p.length-product R n some target b l in
      let lv : length (times R k v) ≡ n = r.length-times R k v ∙ p.length-product R n some row b l in
      ap₂ (plus R) (r.plus_times R x (R.mul k y) b ∙ ap (plus R (times R x b)) (r.times-times R k y b))
      (ap (turn R n) (act_add target k row b l (λ i g. h (suc i) (omega arith))) ∙ t.turn-plus R n u (times R k v) some lu lv ∙ ap (plus R (turn R n u)) (t.turn-times R n k v))
      ∙ r.plus_medial R _ _ _ _
      ∙ ap (plus R _) (sym (r.times-plus R k _ _))

  -- zeros before two rows that act alike
  pub act_shifted : (s : ℕ) (u r f e : List C) → length f ≡ n → length e ≡ n → product R n u f ≡ product R n r e
      → product R n (zeros R s ++ u) f ≡ product R n (zeros R s ++ r) e
  act_shifted zero u r f e lf le h = h
  act_shifted (suc s) u r f e lf le h =
      a.act_shift R n some (zeros R s ++ u) f lf ∙ ap (turn R n) (act_shifted s u r f e lf le h) ∙ sym (a.act_shift R n some (zeros R s ++ r) e le)
