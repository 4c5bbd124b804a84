-- What a try over the words 0 to 7 computes from the costs of pairs, and the loop of a distance.
use Rattle.std.proofs.Common.{◌≡◌, ℕ, zero, suc, ◌+◌, ◌<◌, true, cond, eqb, ltb, List, [], ◌∷◌, length, get_or, take, ℤ, pos, sym, refl, ap, ◌∙◌, subst, ap₂, arith}
use Rattle.std.proofs.lemmas.Bool.{and_parts, ltb-true}
use Rattle.code.specs.Widths.{radius}
use Rattle.code.specs.Words.{word}
use Rattle.code.specs.Distances.{distance, cost}
use Rattle.code.proofs.WordLaws.{binary, word-length, word-binary, word-paired, paired}
use Rattle.code.proofs.DistanceLaws.{gap, distance-gap}

-- a list of eight, place by place
abbrev pub spelt : {A : Type 0} → List A → A → List A
spelt v d = get_or v 0 d ∷ get_or v 1 d ∷ get_or v 2 d ∷ get_or v 3 d ∷ get_or v 4 d ∷ get_or v 5 d ∷ get_or v 6 d ∷ get_or v 7 d ∷ []

pub eight : {A : Type 0} (v : List A) (d : A) → length v ≡ 8 → v ≡ spelt v d
eight [] d l = absurd (omega arith)
eight (x0 ∷ []) d l = absurd (omega arith)
eight (x0 ∷ x1 ∷ []) d l = absurd (omega arith)
eight (x0 ∷ x1 ∷ x2 ∷ []) d l = absurd (omega arith)
eight (x0 ∷ x1 ∷ x2 ∷ x3 ∷ []) d l = absurd (omega arith)
eight (x0 ∷ x1 ∷ x2 ∷ x3 ∷ x4 ∷ []) d l = absurd (omega arith)
eight (x0 ∷ x1 ∷ x2 ∷ x3 ∷ x4 ∷ x5 ∷ []) d l = absurd (omega arith)
eight (x0 ∷ x1 ∷ x2 ∷ x3 ∷ x4 ∷ x5 ∷ x6 ∷ []) d l = absurd (omega arith)
eight (x0 ∷ x1 ∷ x2 ∷ x3 ∷ x4 ∷ x5 ∷ x6 ∷ x7 ∷ []) d l = refl
eight (x0 ∷ x1 ∷ x2 ∷ x3 ∷ x4 ∷ x5 ∷ x6 ∷ x7 ∷ x8 ∷ v) d l = absurd (omega arith)

pub bit_below : (bs : List ℕ) (i : ℕ) → binary bs ≡ true → get_or bs i 0 < 2
bit_below [] i t = omega arith
bit_below (b ∷ bs) zero t = ltb-true b 2 (and_parts (ltb b 2) (binary bs) t).0
bit_below (b ∷ bs) (suc i) t = bit_below bs i (and_parts (ltb b 2) (binary bs) t).1

-- ---- a distance, one place more
gap-suc : (r : ℕ) (v : List ℤ) (bs : List ℕ) (i : ℕ) → i < length v → i < length bs
    → gap r (take (suc i) v) (take (suc i) bs) ≡ gap r (take i v) (take i bs) + cost r (get_or v i (pos 0)) (get_or bs i 0)
unfolding cost
gap-suc r [] bs i hv hb = absurd (omega arith)
gap-suc r (z ∷ v) [] i hv hb = absurd (omega arith)
gap-suc r (z ∷ v) (b ∷ bs) zero hv hb = omega arith
gap-suc r (z ∷ v) (b ∷ bs) (suc i) hv hb = omega (arith, gap-suc r v bs i (omega arith) (omega arith))

pub gap_more : (r : ℕ) (v : List ℤ) (bs : List ℕ) (i : ℕ) → i < length v → i < length bs
    → gap r (take (i + 1) v) (take (i + 1) bs) ≡ gap r (take i v) (take i bs) + cost r (get_or v i (pos 0)) (get_or bs i 0)
gap_more r v bs i hv hb = subst (λ (n : ℕ). gap r (take n v) (take n bs) ≡ gap r (take i v) (take i bs) + cost r (get_or v i (pos 0)) (get_or bs i 0)) one_more (gap-suc r v bs i hv hb)
  where
    one_more : suc i ≡ i + 1
    one_more = omega arith

-- ---- the sum of the pairs' costs
abbrev pub tally : ℕ → ℕ → ℕ → ℕ → ℕ → ℕ → ℕ → ℕ → ℕ → ℕ
tally a0 a1 b0 b1 c0 c1 d0 d1 k = cond (eqb (get_or (word k) 0 0) 0) a0 a1 + cond (eqb (get_or (word k) 2 0) 0) b0 b1 + cond (eqb (get_or (word k) 4 0) 0) c0 c1 + cond (eqb (get_or (word k) 6 0) 0) d0 d1

pair : (r : ℕ) (x y : ℤ) (b n m : ℕ) → b < 2 → n ≡ cost r x 0 + cost r y 0 → m ≡ cost r x 1 + cost r y 1 → cond (eqb b 0) n m ≡ cost r x b + cost r y b
pair r x y zero n m h e f = e
pair r x y (suc zero) n m h e f = f
pair r x y (suc (suc b)) n m h e f = absurd (omega arith)

-- the two costs of the pair x, y
abbrev pub Pair : ℕ → ℤ → ℤ → ℕ → ℕ → Type 0
Pair r x y n m = (n ≡ cost r x 0 + cost r y 0) × (m ≡ cost r x 1 + cost r y 1)

spread : (r : ℕ) (v : List ℤ) (bs : List ℕ) → length v ≡ 8 → bs ≡ paired (spelt bs 0)
    → gap r v bs ≡ (cost r (get_or v 0 (pos 0)) (get_or bs 0 0) + cost r (get_or v 1 (pos 0)) (get_or bs 0 0)) + (cost r (get_or v 2 (pos 0)) (get_or bs 2 0) + cost r (get_or v 3 (pos 0)) (get_or bs 2 0)) + (cost r (get_or v 4 (pos 0)) (get_or bs 4 0) + cost r (get_or v 5 (pos 0)) (get_or bs 4 0)) + (cost r (get_or v 6 (pos 0)) (get_or bs 6 0) + cost r (get_or v 7 (pos 0)) (get_or bs 6 0))
unfolding cost
spread r v bs l e = ap₂ (λ (u : List ℤ) (cs : List ℕ). gap r u cs) (eight v (pos 0) l) e ∙ omega arith

pub tally_is : (w : ℕ) (v : List ℤ) (a0 a1 b0 b1 c0 c1 d0 d1 : ℕ) → length v ≡ 8
    → Pair (radius w) (get_or v 0 (pos 0)) (get_or v 1 (pos 0)) a0 a1 → Pair (radius w) (get_or v 2 (pos 0)) (get_or v 3 (pos 0)) b0 b1
    → Pair (radius w) (get_or v 4 (pos 0)) (get_or v 5 (pos 0)) c0 c1 → Pair (radius w) (get_or v 6 (pos 0)) (get_or v 7 (pos 0)) d0 d1
    → (k : ℕ) → k < 8 → tally a0 a1 b0 b1 c0 c1 d0 d1 k ≡ distance w v k
tally_is w v a0 a1 b0 b1 c0 c1 d0 d1 l ea eb ec ed k h =
    omega (arith, half 0 1 a0 a1 ea, half 2 3 b0 b1 eb, half 4 5 c0 c1 ec, half 6 7 d0 d1 ed) ∙ sym (distance-gap w v k ∙ spread (radius w) v (word k) l pairs)
  where
    half : (i j n m : ℕ) → Pair (radius w) (get_or v i (pos 0)) (get_or v j (pos 0)) n m
        → cond (eqb (get_or (word k) i 0) 0) n m ≡ cost (radius w) (get_or v i (pos 0)) (get_or (word k) i 0) + cost (radius w) (get_or v j (pos 0)) (get_or (word k) i 0)
    half i j n m e = pair (radius w) (get_or v i (pos 0)) (get_or v j (pos 0)) (get_or (word k) i 0) n m (bit_below (word k) i (word-binary k (omega arith))) e.0 e.1

    pairs : word k ≡ paired (spelt (word k) 0)
    pairs = word-paired k h ∙ ap paired (eight (word k) 0 (word-length k (omega arith)))
