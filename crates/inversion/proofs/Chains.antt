-- Euclid's algorithm from its start through each division to its end.
use Rattle.std.proofs.Common.{◌≡◌, ℕ, zero, suc, ◌+◌, ◌-◌, ◌/◌, ◌<◌, ◌≤◌, List, [], ◌∷◌, ◌++◌, length, sym, refl, ap, ◌∙◌, subst, inl, inr, arith, length-append, length-set}
use lib.ListN.{length-replicate}
use lib.Seq.{get_or_at}
use Rattle.std.proofs.lemmas.List.{get_or_past, get_or-append_right}
use Rattle.std.proofs.lemmas.Bool.{cases_lt}
use Rattle.ring.specs.Ring.{CommRing}
use Rattle.ring.specs.Rows.{times, zeros, bump, product, unit, modulus_row}
use Rattle.ring.proofs.Scalars as scalar
use Rattle.ring.proofs.RowLaws as r
use Rattle.ring.proofs.Products as p
use Rattle.ring.proofs.Actions as a
use Rattle.ring.proofs.Vanishing.{modulus_vanishes}
use Rattle.inversion.specs.Places.{at, Below, Leads}
use Rattle.inversion.specs.Division.{add_shifted, factor, divided, along}
use Rattle.inversion.proofs.Zeros as z
use Rattle.inversion.proofs.Divisions as d
use Rattle.inversion.proofs.Units as u

-- What the algorithm keeps of two neighbours in the remainder sequence of f, with their cofactors.
pub record Chain {C : Type 0} (R : CommRing C) (n : ℕ) (f : List C) (top : ℕ) (upper upper-cofactor lower lower-cofactor : List C) : Type 0 where
  -- all four rows have n + 1 places
  pub upper_long : length upper ≡ n + 1
  pub upper_cofactor-long : length upper-cofactor ≡ n + 1
  pub lower_long : length lower ≡ n + 1
  pub lower_cofactor-long : length lower-cofactor ≡ n + 1
  -- in the ring, each row is its cofactor times f
  pub upper_is : product R n upper-cofactor f ≡ product R n upper (unit R n)
  pub lower_is : product R n lower-cofactor f ≡ product R n lower (unit R n)
  -- the upper row has degree top, and the lower row a lower one
  pub within : top ≤ n
  pub upper_leads : Leads R top upper
  pub lower_below : Below R top lower
  -- the lower cofactor has degree n - top, and the upper cofactor a lower one
  pub lower_cofactor_leads : Leads R (n - top) lower-cofactor
  pub upper_cofactor-below : Below R (n - top) upper-cofactor

module _ {C : Type 0} (R : CommRing C) (n : ℕ) (some : 0 < n) (f : List C) (long : length f ≡ n) where
  pub length_modulus : length (modulus_row R n) ≡ n + 1
  unfolding modulus_row bump
  length_modulus =
      length-append (bump R (n / 2) (R.neg R.one) (unit R n)) (R.one ∷ [])
      ∙ ap (λ k. k + 1) (length-set (unit R n) (n / 2) _ ∙ p.length-unit R n some)

  modulus_leads : (R.one ≡ R.zero → ⊥) → Leads R n (modulus_row R n)
  unfolding modulus_row bump
  modulus_leads h = record {
    some = λ e. h (sym (get_or_at (bump R (n / 2) (R.neg R.one) (unit R n)) R.one [] R.zero n (length-set (unit R n) (n / 2) _ ∙ p.length-unit R n some)) ∙ e);
    above = λ i g. get_or_past (modulus_row R n) i R.zero (omega (arith, length_modulus));
  }

  padded_below : Below R n (f ++ zeros R 1)
  padded_below i g = get_or-append_right f (zeros R 1) n i R.zero long g ∙ z.below-zeros R 1 (i - n) (omega arith)

  unit-below : Below R 1 (unit R (n + 1))
  unfolding unit
  unit-below = λ i. elim i as (λ j. 1 ≤ j → at R (unit R (n + 1)) j ≡ R.zero) [ zero ↦ λ g. absurd (omega arith) | suc j ↦ λ g. z.below-zeros R (n + 1 - 1) j (omega arith) ]

  unit-first : at R (unit R (n + 1)) 0 ≡ R.one
  unfolding unit
  unit-first = refl

  -- x^n - x^(n/2) + 1 counts as zero, which has the cofactor zero, and f has the cofactor 1
  pub start : (R.one ≡ R.zero → ⊥) → Chain R n f n (modulus_row R n) (zeros R (n + 1)) (f ++ zeros R 1) (unit R (n + 1))
  start h =
      let none_left : n - n ≡ 0 = omega arith in
      record {
        upper_long = length_modulus;
        upper_cofactor-long = length-replicate (n + 1) R.zero;
        lower_long = length-append f (zeros R 1) ∙ ap (λ k. k + 1) long;
        lower_cofactor-long = p.length-unit R (n + 1) (omega arith);
        upper_is = z.act_zero R n some (zeros R (n + 1)) f long (z.below-zeros R (n + 1)) ∙ sym (modulus_vanishes R n some (unit R n) (p.length-unit R n some));
        lower_is =
            u.act_constant R n some (unit R (n + 1)) f long unit-below ∙ ap (λ k. times R k f) unit-first ∙ r.times-one R f
            ∙ sym (a.act_pad R n some f 1 (unit R n) (p.length-unit R n some) ∙ p.product-unit R n some f long);
        within = omega arith;
        upper_leads = modulus_leads h;
        lower_below = padded_below;
        lower_cofactor_leads = record {
          some = λ e. h (sym (ap (at R (unit R (n + 1))) none_left ∙ unit-first) ∙ e);
          above = λ i g. unit-below i (omega arith);
        };
        upper_cofactor-below = λ i g. z.below-zeros R (n + 1) i (omega arith);
      }

  -- the factor of a place that is not zero is not zero
  factor-some : (x b c : C) → R.mul b c ≡ R.one → R.neg (R.mul x c) ≡ R.zero → x ≡ R.zero
  factor-some x b c e y =
      let m : R.mul x c ≡ R.zero = sym (R.add-zero _) ∙ ap (R.add (R.mul x c)) (sym y) ∙ R.add_neg _ in
      sym (R.mul-one x) ∙ ap (R.mul x) (sym e) ∙ scalar.mul_left_comm R x b c ∙ ap (R.mul b) m ∙ scalar.mul-zero R b

  module _ (domain : (x y : C) → (x ≡ R.zero → ⊥) → R.mul x y ≡ R.zero → y ≡ R.zero) where
    -- one division, and the two pairs change places
    division : (q s : ℕ) (a v b w : List C) (c : C) → 0 < s → Chain R n f (q + s) a v b w → Leads R q b → R.mul (at R b q) c ≡ R.one
        → Chain R n f q b w (divided R a b c q (suc s)) (along R a v b w c q (suc s))
    unfolding along
    division q s a v b w c falls h leads e =
        let top : ℕ = q + s in
        let k = factor R a c q s in
        let l = h.within in
        let la = h.upper_long in
        let lv = h.upper_cofactor-long in
        let m : s + (n - top) ≡ n - q = omega arith in
        let not-zero : R.mul k (at R w (n - top)) ≡ R.zero → ⊥ =
        λ y. h.lower_cofactor_leads.some (domain k (at R w (n - top)) (λ x. h.upper_leads.some (factor-some (at R a top) (at R b q) c e x)) y) in
        let led : Leads R (s + (n - top)) (add_shifted R v k s w) =
        d.led R v w k s (n - top) h.lower_cofactor_leads not-zero (omega arith) h.upper_cofactor-below in
        record {
          upper_long = h.lower_long;
          upper_cofactor-long = h.lower_cofactor-long;
          lower_long = d.length-divided R a b c q (suc s) ∙ la;
          lower_cofactor-long = d.length-along R a v b w c q (suc s) ∙ lv;
          upper_is = h.lower_is;
          lower_is =
              d.tied R n some f (unit R n) long (p.length-unit R n some) a v b w c q (suc s) (n - top) leads.above h.lower_cofactor_leads.above
              (omega arith) (omega arith) h.upper_is h.lower_is;
          within = omega arith;
          upper_leads = leads;
          lower_below = d.divided-below R a b c q (suc s) leads e (omega arith) (λ i g. h.upper_leads.above i (omega arith));
          lower_cofactor_leads =
              d.along_leads R (add_shifted R a k s b) (add_shifted R v k s w) b w c q s (n - top) (n - q) h.lower_cofactor_leads.above
              (omega (arith, d.length_shifted R v k s w)) (omega arith) (subst (λ (j : ℕ). Leads R j (add_shifted R v k s w)) m led);
          upper_cofactor-below = λ i g. h.lower_cofactor_leads.above i (omega arith);
        }

    pub next : (top q : ℕ) (a v b w : List C) (c : C) → Chain R n f top a v b w → Leads R q b → R.mul (at R b q) c ≡ R.one
        → Chain R n f q b w (divided R a b c q (suc top - q)) (along R a v b w c q (suc top - q))
    next top q a v b w c h leads e =
        elim (cases_lt q top) [
          | inl lt ↦
              let t : top ≡ q + (top - q) = omega arith in
              let m : suc (top - q) ≡ suc top - q = omega arith in
              subst (λ (j : ℕ). Chain R n f q b w (divided R a b c q j) (along R a v b w c q j)) m
              (division q (top - q) a v b w c (omega arith) (subst (λ (j : ℕ). Chain R n f j a v b w) t h) leads e)
          | inr ge ↦ absurd (leads.some (h.lower_below q ge))
        ]

  -- a last remainder of degree 0 gives the inverse
  pub found : (a v b w : List C) (c : C) → Chain R n f 0 a v b w → R.mul (at R a 0) c ≡ R.one → product R n (u.cut R n some c v) f ≡ unit R n
  found a v b w c h e =
      u.act_cut R n some c v f long (λ i g. h.upper_cofactor-below i (omega arith))
      ∙ ap (times R c) (h.upper_is ∙ u.act_constant R n some a (unit R n) (p.length-unit R n some) h.upper_leads.above)
      ∙ sym (r.times-times R c (at R a 0) (unit R n))
      ∙ ap (λ k. times R k (unit R n)) (R.mul_comm c _ ∙ e) ∙ r.times-one R (unit R n)

  -- a last remainder of a higher degree leaves none
  pub none : (top : ℕ) (a v b w : List C) → 0 < top → Chain R n f top a v b w → Below R 0 b → (y : List C) → product R n y f ≡ unit R n → ⊥
  none top a v b w high h end y =
      let l = h.within in
      u.no_divisor R n some f w y (n - top) long (λ i g. h.lower_cofactor_leads.above i (omega arith)) h.lower_cofactor_leads.some
      (h.lower_is ∙ z.act_zero R n some b (unit R n) (p.length-unit R n some) end)
