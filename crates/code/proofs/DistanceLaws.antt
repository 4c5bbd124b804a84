-- Squared distances: a small one is that of the nearest word, and what is moved a little stays near.
use Rattle.std.proofs.Common.{◌≡◌, ℕ, zero, suc, ◌+◌, ◌*◌, ◌<◌, ◌≤◌, true, cond, eqb, ltb, List, [], ◌∷◌, map, length, ℤ, pos, ◌-ℤ◌, nat_abs, sym, refl, ap, ◌∙◌, subst, ap₂, inl, inr, mul-le-mul_right, mul-le-mul, arith}
use Rattle.std.proofs.lemmas.Int.{ints}
use Rattle.std.proofs.lemmas.Bool.{and_parts, ltb-true, cases_eq}
use Rattle.code.specs.Widths.{radius}
use Rattle.code.specs.Folds.{fold}
use Rattle.code.specs.Words.{word}
use Rattle.code.specs.Distances.{sums, differences, times, squares, folded_squares, distance, cost, nearest}
use Rattle.code.specs.Tries.{Best}
use Rattle.code.proofs.FoldLaws.{radius-pos, fold-halves, fold_sum}
use Rattle.code.proofs.Squares.{halves, triangle}
use Rattle.code.proofs.WordLaws.{differ, binary, word_far, word-length, word-binary}
use Rattle.code.proofs.Bests.{least_best, best_unique}

-- the squared distance of an octet from a list of bits
abbrev pub gap : ℕ → List ℤ → List ℕ → ℕ
gap r v bs = folded_squares r (differences v (times r bs))

pub distance-gap : (w : ℕ) (v : List ℤ) (k : ℕ) → distance w v k ≡ gap (radius w) v (word k)
unfolding distance
distance-gap w v k = refl

-- ---- the cost of a place
pub cost-zero : (r : ℕ) (z : ℤ) → cost r z 0 ≡ nat_abs (fold r z) * nat_abs (fold r z)
unfolding cost
cost-zero r z = ap (λ (y : ℤ). nat_abs (fold r y) * nat_abs (fold r y)) none
  where
    none : z -ℤ pos (r * 0) ≡ z
    none = omega (arith, ints)

pub cost-one : (r : ℕ) (z : ℤ) → cost r z 1 ≡ nat_abs (fold r (z -ℤ pos r)) * nat_abs (fold r (z -ℤ pos r))
unfolding cost
cost-one r z = ap (λ (y : ℤ). nat_abs (fold r y) * nat_abs (fold r y)) once
  where
    once : z -ℤ pos (r * 1) ≡ z -ℤ pos r
    once = omega (arith, ints)

pub cost-halves : (r : ℕ) (z : ℤ) → 0 < r → r * r ≤ 2 * (cost r z 0 + cost r z 1)
cost-halves r z h =
    subst (λ (n : ℕ). n * n ≤ 2 * (cost r z 0 + cost r z 1)) (fold-halves r z h)
    (omega (arith, cost-zero r z, cost-one r z, halves (nat_abs (fold r z)) (nat_abs (fold r (z -ℤ pos r)))))

-- what the code computes: n is the magnitude of the fold
pub cost_of_zero : (r : ℕ) (z : ℤ) (n : ℕ) → n ≡ nat_abs (fold r z) → n * n ≡ cost r z 0
cost_of_zero r z n e = ap (λ (m : ℕ). m * m) e ∙ sym (cost-zero r z)

pub cost_of_one : (r : ℕ) (z : ℤ) (m : ℕ) → 0 < r → m + nat_abs (fold r z) ≡ r → m * m ≡ cost r z 1
cost_of_one r z m h e = ap (λ (x : ℕ). x * x) (omega (arith, fold-halves r z h)) ∙ sym (cost-one r z)

pub cost_picked : (r : ℕ) (z : ℤ) (b : ℕ) → b < 2 → cond (eqb b 0) (cost r z 0) (cost r z 1) ≡ cost r z b
cost_picked r z zero h = refl
cost_picked r z (suc zero) h = refl
cost_picked r z (suc (suc b)) h = absurd (omega arith)

-- ---- two distances of one octet
place : (r : ℕ) (z : ℤ) (a b : ℕ) → 0 < r → a < 2 → b < 2 → cond (eqb a b) 0 1 * (r * r) ≤ 2 * (cost r z a + cost r z b)
place r z zero zero h ha hb = omega arith
place r z zero (suc zero) h ha hb = omega (arith, cost-halves r z h)
place r z (suc zero) zero h ha hb = omega (arith, cost-halves r z h)
place r z (suc zero) (suc zero) h ha hb = omega arith
place r z (suc (suc a)) b h ha hb = absurd (omega arith)
place r z zero (suc (suc b)) h ha hb = absurd (omega arith)
place r z (suc zero) (suc (suc b)) h ha hb = absurd (omega arith)

gap-apart : (r : ℕ) (v : List ℤ) (bs cs : List ℕ) → 0 < r → binary bs ≡ true → binary cs ≡ true → length bs ≤ length v → differ bs cs * (r * r) ≤ 2 * (gap r v bs + gap r v cs)
unfolding cost
gap-apart r v [] cs h tb tc l = omega arith
gap-apart r [] (b ∷ bs) cs h tb tc l = absurd (omega arith)
gap-apart r (z ∷ v) (b ∷ bs) [] h tb tc l = omega arith
gap-apart r (z ∷ v) (b ∷ bs) (c ∷ cs) h tb tc l =
    let pb : (ltb b 2 ≡ true) × (binary bs ≡ true) = and_parts (ltb b 2) (binary bs) tb in
    let pc : (ltb c 2 ≡ true) × (binary cs ≡ true) = and_parts (ltb c 2) (binary cs) tc in
    omega (arith, gap-apart r v bs cs h pb.1 pc.1 (omega arith), place r z b c h (ltb-true b 2 pb.0) (ltb-true c 2 pc.0))

four : (n x d : ℕ) → 4 ≤ n → n * x ≤ 2 * d → 2 * x ≤ d
four n x d h l = omega (arith, mul-le-mul_right x h)

pub others_far : (w : ℕ) (v : List ℤ) (j k : ℕ) → length v ≡ 8 → j < 16 → k < 16 → (j ≡ k → ⊥) → 2 * (radius w * radius w) ≤ distance w v j + distance w v k
unfolding distance
others_far w v j k l hj hk n =
    four (differ (word j) (word k)) (radius w * radius w) (distance w v j + distance w v k) (word_far j k hj hk n)
    (gap-apart (radius w) v (word j) (word k) (radius-pos w) (word-binary j hj) (word-binary k hk) (omega (arith, l, word-length j hj)))

-- ---- the nearest word
pub nearest_best : (w : ℕ) (v : List ℤ) → Best (distance w v) 16 (nearest w v) (distance w v (nearest w v))
unfolding nearest
nearest_best w v = least_best (distance w v) 15

pub nearest_of : (w : ℕ) (v : List ℤ) (k d : ℕ) → Best (distance w v) 16 k d → k ≡ nearest w v
nearest_of w v k d b = best_unique (distance w v) 16 k (nearest w v) d (distance w v (nearest w v)) b (nearest_best w v)

-- a squared distance below the squared radius is the least, and no other is as small
pub sure_best : (w : ℕ) (v : List ℤ) (k : ℕ) → length v ≡ 8 → k < 16 → distance w v k < radius w * radius w → (j : ℕ) → j < 16 → (j ≡ k → ⊥) → distance w v k < distance w v j
sure_best w v k l hk d j hj n = omega (arith, others_far w v j k l hj hk n)

pub sure : (w : ℕ) (v : List ℤ) (k : ℕ) → length v ≡ 8 → k < 16 → distance w v k < radius w * radius w → nearest w v ≡ k
sure w v k l hk d =
    sym (nearest_of w v k (distance w v k) (record {
      below = hk;
      value = refl;
      least = λ j hj. elim (cases_eq j k) [ inl e ↦ omega (arith, ap (distance w v) e) | inr n ↦ omega (arith, sure_best w v k l hk d j hj n) ];
      first = λ j hj. sure_best w v k l hk d j (omega arith) (λ e. omega arith);
    }))

-- ---- sums
squares_folds : (r : ℕ) (xs ys : List ℤ) → 0 < r → folded_squares r (sums xs ys) ≤ squares (sums (map (fold r) xs) (map (fold r) ys))
squares_folds r [] ys h = omega arith
squares_folds r (x ∷ xs) [] h = omega arith
squares_folds r (x ∷ xs) (y ∷ ys) h = omega (arith, squares_folds r xs ys h, mul-le-mul (fold_sum r x y h) (fold_sum r x y h))

-- the length law of folds
pub folds_triangle : (r L M : ℕ) (xs ys : List ℤ) → 0 < r → folded_squares r xs ≤ L * L → folded_squares r ys ≤ M * M → folded_squares r (sums xs ys) ≤ (L + M) * (L + M)
folds_triangle r L M xs ys h hx hy = omega (arith, squares_folds r xs ys h, triangle L M (map (fold r) xs) (map (fold r) ys) hx hy)

differences-sums : (v e t : List ℤ) → differences (sums v e) t ≡ sums (differences v t) e
differences-sums [] e [] = refl
differences-sums [] e (z ∷ t) = refl
differences-sums (x ∷ v) [] [] = refl
differences-sums (x ∷ v) [] (z ∷ t) = refl
differences-sums (x ∷ v) (y ∷ e) [] = refl
differences-sums (x ∷ v) (y ∷ e) (z ∷ t) = ap₂ (λ (a : ℤ) (l : List ℤ). a ∷ l) (omega (arith, ints)) (differences-sums v e t)

-- an octet within L of a word, moved by at most M, is within L + M of it
pub distance-moved : (w L M : ℕ) (v e : List ℤ) (k : ℕ) → distance w v k ≤ L * L → folded_squares (radius w) e ≤ M * M → distance w (sums v e) k ≤ (L + M) * (L + M)
unfolding distance
distance-moved w L M v e k hv he =
    subst (λ (l : List ℤ). folded_squares (radius w) l ≤ (L + M) * (L + M)) (sym (differences-sums v e (times (radius w) (word k))))
    (folds_triangle (radius w) L M (differences v (times (radius w) (word k))) e (radius-pos w) hv he)

sums-length : (v e : List ℤ) → length v ≡ length e → length (sums v e) ≡ length v
sums-length [] e l = refl
sums-length (x ∷ v) [] l = absurd (omega arith)
sums-length (x ∷ v) (y ∷ e) l = omega (arith, sums-length v e (omega arith))

pub robust : (w L M : ℕ) (v e : List ℤ) (k : ℕ) → length v ≡ 8 → length e ≡ 8 → k < 16 → distance w v k ≤ L * L → folded_squares (radius w) e ≤ M * M → L + M < radius w → nearest w (sums v e) ≡ k
robust w L M v e k lv le hk dv de m =
    sure w (sums v e) k (omega (arith, sums-length v e (omega arith))) hk
    (omega (arith, distance-moved w L M v e k dv de, mul-le-mul m m))
