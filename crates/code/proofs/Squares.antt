-- Sums of squares, and the length law without roots.
use Rattle.std.proofs.Common.{◌≡◌, ℕ, zero, suc, ◌+◌, ◌-◌, ◌*◌, ◌<◌, ◌≤◌, List, [], ◌∷◌, ℤ, nat_abs, sym, refl, subst, inl, inr, mul-le-mul, mul-le-mul_left, arith}
use Rattle.std.proofs.lemmas.Bool.{cases_lt}
use Rattle.code.specs.Distances.{squares, sums}
use Rattle.code.proofs.FoldLaws.{unsigned_abs_sum}

-- (x + d) squared
pub sq_add : (x d : ℕ) → (x + d) * (x + d) ≡ x * x + 2 * (x * d) + d * d
sq_add x d = omega arith

-- 2 x y ≤ x² + y²
pub means : (x y : ℕ) → 2 * (x * y) ≤ x * x + y * y
means x y =
    elim (cases_lt x y) [ inl l ↦ at x y (y - x) (omega arith) | inr l ↦ omega (arith, at y x (x - y) (omega arith)) ]
  where
    at : (x y d : ℕ) → y ≡ x + d → 2 * (x * y) ≤ x * x + y * y
    at x y d e = subst (λ (z : ℕ). 2 * (x * z) ≤ x * x + z * z) (sym e) (omega arith)

-- (a + b)² ≤ 2 (a² + b²)
pub halves : (a b : ℕ) → (a + b) * (a + b) ≤ 2 * (a * a + b * b)
halves a b = omega (arith, means a b)

-- ---- lists
abbrev pub norm : List ℕ → ℕ
norm [] = 0
norm (x ∷ xs) = x * x + norm xs

abbrev pub dot : List ℕ → List ℕ → ℕ
dot [] ys = 0
dot (x ∷ xs) [] = 0
dot (x ∷ xs) (y ∷ ys) = x * y + dot xs ys

abbrev pub both : List ℕ → List ℕ → ℕ
both [] ys = 0
both (x ∷ xs) [] = 0
both (x ∷ xs) (y ∷ ys) = (x + y) * (x + y) + both xs ys

pub both_is : (xs ys : List ℕ) → both xs ys ≤ norm xs + 2 * dot xs ys + norm ys
both_is [] ys = omega arith
both_is (x ∷ xs) [] = omega arith
both_is (x ∷ xs) (y ∷ ys) = omega (arith, both_is xs ys)

-- 2 (M x) (L y) ≤ (M x)² + (L y)², summed
pub weighed : (L M : ℕ) (xs ys : List ℕ) → 2 * (L * M * dot xs ys) ≤ M * M * norm xs + L * L * norm ys
weighed L M [] ys = omega arith
weighed L M (x ∷ xs) [] = omega arith
weighed L M (x ∷ xs) (y ∷ ys) = omega (arith, weighed L M xs ys, means (M * x) (L * y))

-- a positive factor on both sides
cancel : (k x y : ℕ) → 0 < k → k * x ≤ k * y → x ≤ y
cancel k x y h l = elim (cases_lt y x) [ inl g ↦ absurd (omega (arith, mul-le-mul_left k g)) | inr g ↦ g ]

-- sums of squares at most L² and M²: the dot product is at most L M
dot-zero : (xs ys : List ℕ) → norm xs ≡ 0 → dot xs ys ≡ 0
dot-zero [] ys e = refl
dot-zero (x ∷ xs) [] e = refl
dot-zero (zero ∷ xs) (y ∷ ys) e = omega (arith, dot-zero xs ys (omega arith))
dot-zero (suc x ∷ xs) (y ∷ ys) e = absurd (omega arith)

dot-zero-right : (xs ys : List ℕ) → norm ys ≡ 0 → dot xs ys ≡ 0
dot-zero-right [] ys e = refl
dot-zero-right (x ∷ xs) [] e = refl
dot-zero-right (x ∷ xs) (zero ∷ ys) e = omega (arith, dot-zero-right xs ys (omega arith))
dot-zero-right (x ∷ xs) (suc y ∷ ys) e = absurd (omega arith)

pub cauchy : (L M : ℕ) (xs ys : List ℕ) → norm xs ≤ L * L → norm ys ≤ M * M → dot xs ys ≤ L * M
cauchy zero M xs ys hx hy = omega (arith, dot-zero xs ys (omega arith))
cauchy (suc l) zero xs ys hx hy = omega (arith, dot-zero-right xs ys (omega arith))
cauchy (suc l) (suc m) xs ys hx hy =
    cancel (L * M) (dot xs ys) (L * M) (omega arith)
    (omega (arith, weighed L M xs ys, mul-le-mul_left (M * M) hx, mul-le-mul_left (L * L) hy))
  where
    L : ℕ
    L = suc l

    M : ℕ
    M = suc m

pub norm-triangle : (L M : ℕ) (xs ys : List ℕ) → norm xs ≤ L * L → norm ys ≤ M * M → both xs ys ≤ (L + M) * (L + M)
norm-triangle L M xs ys hx hy = omega (arith, both_is xs ys, cauchy L M xs ys hx hy)

-- ---- whole numbers
pub magnitudes : List ℤ → List ℕ
magnitudes [] = []
magnitudes (z ∷ zs) = nat_abs z ∷ magnitudes zs

squares-norm : (xs : List ℤ) → squares xs ≡ norm (magnitudes xs)
unfolding magnitudes
squares-norm [] = refl
squares-norm (x ∷ xs) = omega (arith, squares-norm xs)

squares-both : (xs ys : List ℤ) → squares (sums xs ys) ≤ both (magnitudes xs) (magnitudes ys)
unfolding magnitudes
squares-both [] ys = omega arith
squares-both (x ∷ xs) [] = omega arith
squares-both (x ∷ xs) (y ∷ ys) = omega (arith, squares-both xs ys, mul-le-mul (unsigned_abs_sum x y) (unsigned_abs_sum x y))

-- two lists of lengths at most L and M have a sum of length at most L + M
pub triangle : (L M : ℕ) (xs ys : List ℤ) → squares xs ≤ L * L → squares ys ≤ M * M → squares (sums xs ys) ≤ (L + M) * (L + M)
triangle L M xs ys hx hy =
    omega (arith, squares-both xs ys, norm-triangle L M (magnitudes xs) (magnitudes ys) (omega (arith, squares-norm xs)) (omega (arith, squares-norm ys)))
