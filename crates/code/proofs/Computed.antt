-- Tests that are computed at every number below a bound.
use Rattle.std.proofs.Common.{◌≡◌, ℕ, zero, suc, ◌<◌, Bool, true, false, ◌&&◌, eqb, List, [], ◌∷◌, sym, refl, subst, ap₂, inl, inr, arith}
use Rattle.std.proofs.lemmas.Bool.{and_parts, cases_eq, eqb-true, both_ways}

-- the test passes at every number below n
abbrev pub all : ℕ → (ℕ → Bool) → Bool
all zero f = true
all (suc n) f = f n && all n f

pub at : (n : ℕ) (f : ℕ → Bool) → all n f ≡ true → (k : ℕ) → k < n → f k ≡ true
at zero f t k h = absurd (omega arith)
at (suc n) f t k h =
    elim (cases_eq k n) [
      | inl e ↦ subst (λ (m : ℕ). f m ≡ true) (sym e) (and_parts (f n) (all n f) t).0
      | inr d ↦ at n f (and_parts (f n) (all n f) t).1 k (omega arith)
    ]

-- the test passes at every two numbers below n
pub at_both : (n : ℕ) (f : ℕ → ℕ → Bool) → all n (λ j. all n (f j)) ≡ true → (j k : ℕ) → j < n → k < n → f j k ≡ true
at_both n f t j k hj hk = at n (f j) (at n (λ j. all n (f j)) t j hj) k hk

-- whether two lists are equal
abbrev pub equal : List ℕ → List ℕ → Bool
equal [] [] = true
equal [] (y ∷ ys) = false
equal (x ∷ xs) [] = false
equal (x ∷ xs) (y ∷ ys) = eqb x y && equal xs ys

pub equal-true : (xs ys : List ℕ) → equal xs ys ≡ true → xs ≡ ys
equal-true [] [] t = refl
equal-true [] (y ∷ ys) t = absurd (both_ways false refl t)
equal-true (x ∷ xs) [] t = absurd (both_ways false refl t)
equal-true (x ∷ xs) (y ∷ ys) t =
    let p : (eqb x y ≡ true) × (equal xs ys ≡ true) = and_parts (eqb x y) (equal xs ys) t in
    ap₂ (λ (a : ℕ) (l : List ℕ). a ∷ l) (eqb-true x y p.0) (equal-true xs ys p.1)
