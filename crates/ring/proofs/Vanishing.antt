-- x^n - x^(n/2) + 1 acts as zero on every row of n.
use Rattle.std.proofs.Common.{◌≡◌, ℕ, zero, suc, ◌-◌, ◌/◌, ◌<◌, List, [], ◌∷◌, ◌++◌, length, get_or, take, sym, ap, ◌∙◌, ap₂, append-nil, arith, length-append, length-set, get_or-append-add}
use lib.ListN.{length-replicate}
use lib.Seq.{take-append-add}
use Rattle.ring.specs.Ring.{CommRing}
use Rattle.ring.specs.Rows.{plus, times, zeros, bump, top, turn, product, unit, modulus_row}
use Rattle.ring.proofs.Scalars as s
use Rattle.ring.proofs.RowLaws as r
use Rattle.ring.proofs.Turns as t
use Rattle.ring.proofs.Products as p
use Rattle.ring.proofs.Actions as a

module _ {C : Type 0} (R : CommRing C) (n : ℕ) (some : 0 < n) where
  -- 1 - x^(n/2), as a row
  abbrev low : List C
  low = bump R (n / 2) (R.neg R.one) (unit R n)

  -- x^(n-1), as a row
  abbrev high : List C
  high = zeros R (n - 1) ++ (R.one ∷ [])

  length-low : length low ≡ n
  unfolding bump
  length-low = length-set (unit R n) (n / 2) _ ∙ p.length-unit R n some

  length_high : length high ≡ n
  length_high = omega (arith, length-append (zeros R (n - 1)) (R.one ∷ []), length-replicate (n - 1) R.zero)

  top-high : top R n high ≡ R.one
  top-high =
      ap (λ k. get_or high k R.zero) (sym (length-replicate (n - 1) R.zero) ∙ omega arith)
      ∙ get_or-append-add (zeros R (n - 1)) (R.one ∷ []) 0 R.zero

  take-high : take (n - 1) high ≡ zeros R (n - 1)
  take-high =
      ap (λ k. take k high) (sym (length-replicate (n - 1) R.zero) ∙ omega arith)
      ∙ take-append-add (zeros R (n - 1)) (R.one ∷ []) 0
      ∙ append-nil (zeros R (n - 1))

  minus_minus : R.mul (R.neg R.one) (R.neg R.one) ≡ R.one
  minus_minus =
      s.mul-neg R _ _ ∙ ap R.neg (R.mul-one _)
      ∙ sym (s.neg_unique R (R.neg R.one) R.one (s.neg-add_self R R.one))

  minus_unit : times R (R.neg R.one) (unit R n) ≡ R.neg R.one ∷ zeros R (n - 1)
  unfolding times unit
  minus_unit = ap₂ {C = List C} ◌∷◌ (R.mul-one _) (r.times-zeros R (R.neg R.one) (n - 1))

  -- x times x^(n-1) is x^(n/2) - 1
  turn-high : turn R n high ≡ times R (R.neg R.one) low
  unfolding turn
  turn-high =
      ap₂ (λ u w. bump R (n / 2) u (R.neg u ∷ w)) top-high take-high
      ∙ ap₂ (λ u w. bump R (n / 2) u w) (sym minus_minus) (sym minus_unit)
      ∙ t.bump-times R (n / 2) (R.neg R.one) (R.neg R.one) (unit R n)

  -- a row and its negative
  cancels : (x : List C) → length x ≡ n → plus R x (times R (R.neg R.one) x) ≡ zeros R n
  cancels x h =
      ap (λ w. plus R w (times R (R.neg R.one) x)) (sym (r.times-one R x))
      ∙ sym (r.plus_times R R.one (R.neg R.one) x)
      ∙ ap (λ k. times R k x) (R.add_neg R.one)
      ∙ r.zero-times R x ∙ ap (zeros R) h

  sum_of : (x : List C) (k : ℕ) → length x ≡ suc k → plus R (x ++ zeros R 1) (R.zero ∷ (zeros R k ++ (R.one ∷ []))) ≡ x ++ (R.one ∷ [])
  unfolding plus
  sum_of [] k h = absurd (omega arith)
  sum_of (u ∷ []) zero h = ap₂ {C = List C} (λ v w. v ∷ w ∷ []) (R.add-zero u) (s.zero-add R R.one)
  sum_of (u ∷ []) (suc k) h = absurd (omega arith)
  sum_of (u ∷ v ∷ x) zero h = absurd (omega arith)
  sum_of (u ∷ v ∷ x) (suc k) h = ap₂ {C = List C} ◌∷◌ (R.add-zero u) (sum_of (v ∷ x) k (omega arith))

  -- x^n - x^(n/2) + 1 is the sum of its low part and of x^n
  parts : modulus_row R n ≡ plus R (low ++ zeros R 1) (R.zero ∷ high)
  unfolding modulus_row
  parts = sym (sum_of low (n - 1) (length-low ∙ omega arith))

  pub modulus_vanishes : (b : List C) → length b ≡ n → product R n (modulus_row R n) b ≡ zeros R n
  modulus_vanishes b h =
      ap (λ w. product R n w b) parts
      ∙ a.act_plus R n some (low ++ zeros R 1) (R.zero ∷ high) b
      (omega (arith, length-append low (zeros R 1), length-low, length_high)) h
      ∙ ap₂ (plus R) (a.act_pad R n some low 1 b h)
      (a.act_shift R n some high b h
      ∙ ap (turn R n) (p.product-comm R n some high b length_high h)
      ∙ sym (p.product-turn R n some b high length_high)
      ∙ ap (product R n b) turn-high
      ∙ p.product-times R n some b (R.neg R.one) low
      ∙ ap (times R (R.neg R.one)) (p.product-comm R n some b low h length-low))
      ∙ cancels (product R n low b) (p.length-product R n some low b h)
