-- One division clears the upper row down to the lower's degree, and raises the degree of the upper cofactor by as much.
use Rattle.std.proofs.Common.{◌≡◌, ℕ, zero, suc, ◌+◌, ◌-◌, ◌<◌, ◌≤◌, List, ◌++◌, length, get_or, sym, refl, ap, ◌∙◌, ap₂, inl, inr, arith}
use Rattle.std.proofs.lemmas.List.{get_or_default}
use Rattle.std.proofs.lemmas.Bool.{cases_eq}
use Rattle.ring.specs.Ring.{CommRing}
use Rattle.ring.specs.Rows.{plus, times, zeros, product}
use Rattle.ring.proofs.Scalars as scalar
use Rattle.ring.proofs.Steps.{length-add_into}
use Rattle.inversion.specs.Places.{at, Below, Leads}
use Rattle.inversion.specs.Division.{add_shifted, factor, divided, along}
use Rattle.inversion.proofs.Zeros as z

module _ {C : Type 0} (R : CommRing C) where
  -- the shifted row fits
  fits : (target : List C) (s p : ℕ) (row : List C) → Below R (suc p) row → s + suc p ≤ length target → Below R (length target) (zeros R s ++ row)
  fits target s p row h l = z.below_more R (s + suc p) (length target) (zeros R s ++ row) l (z.below_shifted R s (suc p) row h)

  -- no place from p on changes, if the shifted row is zero there
  kept : (target : List C) (k : C) (s p : ℕ) (row : List C) → Below R (suc p) row → s + suc p ≤ length target → (i : ℕ) → s + suc p ≤ i
      → at R (add_shifted R target k s row) i ≡ at R target i
  kept target k s p row h l i g =
      z.at-add R target k (zeros R s ++ row) (fits target s p row h l) i
      ∙ ap (λ w. R.add (at R target i) (R.mul k w)) (z.below_shifted R s (suc p) row h i g)
      ∙ ap (R.add (at R target i)) (scalar.mul-zero R k) ∙ R.add-zero _

  -- the leading place of the shifted row
  reached : (target : List C) (k : C) (s p : ℕ) (row : List C) → Below R (suc p) row → s + suc p ≤ length target
      → at R (add_shifted R target k s row) (s + p) ≡ R.add (at R target (s + p)) (R.mul k (at R row p))
  reached target k s p row h l =
      z.at-add R target k (zeros R s ++ row) (fits target s p row h l) (s + p)
      ∙ ap (λ w. R.add (at R target (s + p)) (R.mul k w)) (z.at_shifted R s row p)

  -- x less x·c·b is zero where c is the inverse of b
  cancels : (x b c : C) → R.mul b c ≡ R.one → R.add x (R.mul (R.neg (R.mul x c)) b) ≡ R.zero
  cancels x b c e =
      ap (R.add x) (R.mul_comm _ b ∙ scalar.mul-neg R b (R.mul x c) ∙ ap R.neg (scalar.mul_left_comm R b x c ∙ ap (R.mul x) e ∙ R.mul-one x))
      ∙ R.add_neg x

  -- one step of the division clears one place more
  pub cleared : (a b : List C) (c : C) (q s : ℕ) → Leads R q b → R.mul (at R b q) c ≡ R.one → q + suc s ≤ length a → Below R (q + suc s) a
      → Below R (q + s) (add_shifted R a (factor R a c q s) s b)
  cleared a b c q s h e l below i g =
      let k = factor R a c q s in
      let w : q + s ≡ s + q = omega arith in
      elim (cases_eq i (q + s)) [
        | inl here ↦ ap (at R (add_shifted R a k s b)) (here ∙ w) ∙ reached a k s q b h.above (omega arith)
            ∙ ap (λ (j : ℕ). R.add (at R a j) (R.mul k (at R b q))) (sym w) ∙ cancels (at R a (q + s)) (at R b q) c e
        | inr past ↦ kept a k s q b h.above (omega arith) i (omega (arith, past)) ∙ below i (omega (arith, past))
      ]

  pub length_shifted : (a : List C) (k : C) (s : ℕ) (b : List C) → length (add_shifted R a k s b) ≡ length a
  length_shifted a k s b = length-add_into R a k (zeros R s ++ b)

  pub divided-below : (a b : List C) (c : C) (q s : ℕ) → Leads R q b → R.mul (at R b q) c ≡ R.one → q + s ≤ length a → Below R (q + s) a
      → Below R q (divided R a b c q s)
  unfolding divided
  divided-below a b c q zero h e l below = λ i g. below i (omega arith)
  divided-below a b c q (suc s) h e l below =
      let k = factor R a c q s in
      divided-below (add_shifted R a k s b) b c q s h e (omega (arith, length_shifted a k s b)) (cleared a b c q s h e l below)

  pub length-divided : (a b : List C) (c : C) (q s : ℕ) → length (divided R a b c q s) ≡ length a
  unfolding divided
  length-divided a b c q zero = refl
  length-divided a b c q (suc s) = length-divided (add_shifted R a (factor R a c q s) s b) b c q s ∙ length_shifted a _ s b

  pub length-along : (a u b v : List C) (c : C) (q s : ℕ) → length (along R a u b v c q s) ≡ length u
  unfolding along
  length-along a u b v c q zero = refl
  length-along a u b v c q (suc s) =
      let k = factor R a c q s in
      length-along (add_shifted R a k s b) (add_shifted R u k s v) b v c q s ∙ length_shifted u k s v

  -- the loop of the division: place i is cleared, with the factor k of the coefficient x that stands there
  module _ (a b : List C) (c : C) (q i : ℕ) (x k : C) (above : q ≤ i) (within : i < length a) (x-is : x ≡ get_or a i x) (k-is : k ≡ R.neg (R.mul x c)) where
    k-factor : k ≡ factor R a c q (i - q)
    k-factor =
        let e : i ≡ q + (i - q) = omega arith in
        k-is ∙ ap (λ w. R.neg (R.mul w c)) (x-is ∙ get_or_default a i x R.zero within ∙ ap (at R a) e)

    pub divided_step : (after : List C) → after ≡ add_shifted R a k (i - q) b → divided R after b c q (i - q) ≡ divided R a b c q (suc i - q)
    unfolding divided
    divided_step after after_is =
        let m : suc (i - q) ≡ suc i - q = omega arith in
        ap (λ w. divided R w b c q (i - q)) (after_is ∙ ap (λ y. add_shifted R a y (i - q) b) k-factor) ∙ ap (divided R a b c q) m

    pub along_step : (u v after beside : List C) → after ≡ add_shifted R a k (i - q) b → beside ≡ add_shifted R u k (i - q) v
        → along R after beside b v c q (i - q) ≡ along R a u b v c q (suc i - q)
    unfolding along
    along_step u v after beside after_is beside-is =
        let s = i - q in
        let m : suc (i - q) ≡ suc i - q = omega arith in
        ap₂ (λ w y. along R w y b v c q s) (after_is ∙ ap (λ y. add_shifted R a y s b) k-factor) (beside-is ∙ ap (λ y. add_shifted R u y s v) k-factor)
        ∙ ap (along R a u b v c q) m

  pub divided_none : (a b : List C) (c : C) (q i : ℕ) → i ≤ q → divided R a b c q (i - q) ≡ a
  unfolding divided
  divided_none a b c q i h = let e : i - q ≡ 0 = omega arith in ap (divided R a b c q) e

  pub along_none : (a u b v : List C) (c : C) (q i : ℕ) → i ≤ q → along R a u b v c q (i - q) ≡ u
  unfolding along
  along_none a u b v c q i h = let e : i - q ≡ 0 = omega arith in ap (along R a u b v c q) e

  -- the first step gives the cofactor its new degree, if the factor times the leading coefficient of the other is not zero
  pub led : (u v : List C) (k : C) (s e : ℕ) → Leads R e v → (R.mul k (at R v e) ≡ R.zero → ⊥) → s + suc e ≤ length u → Below R e u
      → Leads R (s + e) (add_shifted R u k s v)
  led u v k s e h some l below = record {
    some = λ y. some (sym (scalar.zero-add R _) ∙ ap (λ w. R.add w (R.mul k (at R v e))) (sym (below (s + e) (omega arith))) ∙ sym (reached u k s e v h.above l) ∙ y);
    above = λ i g. kept u k s e v h.above l i (omega arith) ∙ below i (omega arith);
  }

  -- and the later steps keep it
  pub stays : (u v : List C) (k : C) (s e m : ℕ) → Below R (suc e) v → s + suc e ≤ length u → s + suc e ≤ m → Leads R m u
      → Leads R m (add_shifted R u k s v)
  stays u v k s e m h l g leads = record {
    some = λ y. leads.some (sym (kept u k s e v h l m g) ∙ y);
    above = λ i j. kept u k s e v h l i (omega arith) ∙ leads.above i j;
  }

  pub along_leads : (a u b v : List C) (c : C) (q s e m : ℕ) → Below R (suc e) v → s + e ≤ length u → s + e ≤ m → Leads R m u
      → Leads R m (along R a u b v c q s)
  unfolding along
  along_leads a u b v c q zero e m h l g leads = leads
  along_leads a u b v c q (suc s) e m h l g leads =
      let k = factor R a c q s in
      along_leads (add_shifted R a k s b) (add_shifted R u k s v) b v c q s e m h (omega (arith, length_shifted u k s v)) (omega arith)
      (stays u v k s e m h (omega arith) (omega arith) leads)

  -- both sides stay tied
  module _ (n : ℕ) (some : 0 < n) (f e : List C) (lf : length f ≡ n) (le : length e ≡ n) where
    tied_step : (a u b v : List C) (k : C) (s p d : ℕ) → Below R (suc p) b → Below R (suc d) v → s + suc p ≤ length a → s + suc d ≤ length u
        → product R n u f ≡ product R n a e → product R n v f ≡ product R n b e
        → product R n (add_shifted R u k s v) f ≡ product R n (add_shifted R a k s b) e
    tied_step a u b v k s p d hb hv la lu tu tv =
        z.act_add R n some u k (zeros R s ++ v) f lf (fits u s d v hv lu)
        ∙ ap₂ (λ x y. plus R x (times R k y)) tu (z.act_shifted R n some s v b f e lf le tv)
        ∙ sym (z.act_add R n some a k (zeros R s ++ b) e le (fits a s p b hb la))

    pub tied : (a u b v : List C) (c : C) (q s d : ℕ) → Below R (suc q) b → Below R (suc d) v → s + q ≤ length a → s + d ≤ length u
        → product R n u f ≡ product R n a e → product R n v f ≡ product R n b e
        → product R n (along R a u b v c q s) f ≡ product R n (divided R a b c q s) e
    unfolding along divided
    tied a u b v c q zero d hb hv la lu tu tv = tu
    tied a u b v c q (suc s) d hb hv la lu tu tv =
        let k = factor R a c q s in
        tied (add_shifted R a k s b) (add_shifted R u k s v) b v c q s d hb hv (omega (arith, length_shifted a k s b)) (omega (arith, length_shifted u k s v))
        (tied_step a u b v k s q d hb hv (omega arith) (omega arith) tu tv) tv
