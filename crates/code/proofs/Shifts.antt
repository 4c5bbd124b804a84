-- An octet that is raised by the radius at its odd places, and lowered again, in 32 bits.
use Rattle.std.proofs.Common.{◌≡◌, ℕ, zero, suc, ◌+◌, ◌-◌, ◌*◌, ◌^◌, ◌<◌, ◌≤◌, Bool, true, false, ◌&&◌, ltb, List, [], ◌∷◌, length, get_or, ℤ, pos, negsuc, ◌+ℤ◌, ◌-ℤ◌, neg_ℤ, nat_abs, sym, refl, ap, ◌∙◌, ap₂, arith, w32, SFits, to_z}
use mir.Val.{sel}
use Rattle.std.specs.Int.{int_wrap}
use Rattle.std.proofs.lemmas.Int.{ints, int_wrap_fits, int_wrap-add_left, int_wrap-add_right}
use Rattle.std.proofs.lemmas.Bool.{and_parts, ltb-true}
use Rattle.code.specs.Widths.{radius}
use Rattle.code.specs.Folds.{rest, Same}
use Rattle.code.specs.Words.{word}
use Rattle.code.specs.Distances.{distance, cost}
use Rattle.code.specs.Tries.{at_odd, raised, lowered}
use Rattle.code.proofs.Multiples.{same_refl, same-sym, same_trans, same_power}
use Rattle.code.proofs.FoldLaws.{fold_same, radius_twice, rest-same, rest_below}
use Rattle.code.proofs.WordLaws.{binary, turned, word-turned, word-binary}
use Rattle.code.proofs.DistanceLaws.{gap, distance-gap, cost-zero, cost-one}
use Rattle.code.proofs.Searches.{eight}

-- what wraps in 32 bits differs by a multiple of 2 ^ 32
read_same : (n : ℕ) → n < 4294967296 → Same 4294967296 (pos n) (to_z w32 n)
read_same n h = at (ltb n 2147483648)
  where
    at : (b : Bool) → Same 4294967296 (pos n) (sel b (pos n) (negsuc (4294967296 - suc n)))
    at true = same_refl 4294967296 (pos n)
    at false = record { here = 0; there = 1; tie = omega (arith, ints) }

pub wrapped_same : (z : ℤ) → Same 4294967296 z (int_wrap w32 z)
unfolding int_wrap rest
wrapped_same z = same_trans 4294967296 z (pos (rest 2147483648 z)) (int_wrap w32 z) (rest-same 2147483648 z (omega arith)) (read_same (rest 2147483648 z) (rest_below 2147483648 z (omega arith)))

-- what holds of each number below 8
pub below8 : (P : ℕ → Type 0) → P 0 → P 1 → P 2 → P 3 → P 4 → P 5 → P 6 → P 7 → (k : ℕ) → k < 8 → P k
below8 P p0 p1 p2 p3 p4 p5 p6 p7 zero h = p0
below8 P p0 p1 p2 p3 p4 p5 p6 p7 (suc zero) h = p1
below8 P p0 p1 p2 p3 p4 p5 p6 p7 (suc (suc zero)) h = p2
below8 P p0 p1 p2 p3 p4 p5 p6 p7 (suc (suc (suc zero))) h = p3
below8 P p0 p1 p2 p3 p4 p5 p6 p7 (suc (suc (suc (suc zero)))) h = p4
below8 P p0 p1 p2 p3 p4 p5 p6 p7 (suc (suc (suc (suc (suc zero))))) h = p5
below8 P p0 p1 p2 p3 p4 p5 p6 p7 (suc (suc (suc (suc (suc (suc zero)))))) h = p6
below8 P p0 p1 p2 p3 p4 p5 p6 p7 (suc (suc (suc (suc (suc (suc (suc zero))))))) h = p7
below8 P p0 p1 p2 p3 p4 p5 p6 p7 (suc (suc (suc (suc (suc (suc (suc (suc k)))))))) h = absurd (omega arith)

-- ---- there and back
back : (s y : ℤ) → SFits w32 y → int_wrap w32 (int_wrap w32 (y +ℤ s) -ℤ s) ≡ y
back s y f = ap (int_wrap w32) (minus (int_wrap w32 (y +ℤ s)) s) ∙ int_wrap-add_left w32 (y +ℤ s) (pos 0 -ℤ s) ∙ ap (int_wrap w32) gone ∙ int_wrap_fits w32 y f
  where
    minus : (x s : ℤ) → x -ℤ s ≡ x +ℤ (pos 0 -ℤ s)
    minus x s = omega (arith, ints)

    gone : y +ℤ s +ℤ (pos 0 -ℤ s) ≡ y
    gone = omega (arith, ints)

pub at_odd_is : (g : ℤ → ℤ) (v : List ℤ) (a b c d e f x y : ℤ) → length v ≡ 8
    → a ≡ get_or v 0 (pos 0) → b ≡ g (get_or v 1 (pos 0)) → c ≡ get_or v 2 (pos 0) → d ≡ g (get_or v 3 (pos 0))
    → e ≡ get_or v 4 (pos 0) → f ≡ g (get_or v 5 (pos 0)) → x ≡ get_or v 6 (pos 0) → y ≡ g (get_or v 7 (pos 0))
    → a ∷ b ∷ c ∷ d ∷ e ∷ f ∷ x ∷ y ∷ [] ≡ at_odd g v
at_odd_is g v a b c d e f x y l ea eb ec ed ee ef ex ey = simp (ea, eb, ec, ed, ee, ef, ex, ey) (sym (ap (at_odd g) (eight v (pos 0) l)))

-- ---- to add what is turned is to take away
at_odd-same : (g h : ℤ → ℤ) (v : List ℤ) → ((y : ℤ) → g y ≡ h y) → at_odd g v ≡ at_odd h v
at_odd-same g h [] e = refl
at_odd-same g h (x ∷ []) e = refl
at_odd-same g h (x ∷ y ∷ v) e = ap₂ (λ (a : ℤ) (l : List ℤ). x ∷ a ∷ l) (e y) (at_odd-same g h v e)

pub raised-turned : (s t : ℤ) (v : List ℤ) → t ≡ int_wrap w32 (neg_ℤ s) → raised t v ≡ lowered s v
raised-turned s t v e = at_odd-same _ _ v (λ y. ap (λ (x : ℤ). int_wrap w32 (y +ℤ x)) e ∙ int_wrap-add_right w32 y (neg_ℤ s) ∙ ap (int_wrap w32) (minus y))
  where
    minus : (y : ℤ) → y +ℤ neg_ℤ s ≡ y -ℤ s
    minus y = omega (arith, ints)

pub raised-lowered : (s : ℤ) (v : List ℤ) → length v ≡ 8 → ((i : ℕ) → i < 8 → SFits w32 (get_or v i (pos 0))) → lowered s (raised s v) ≡ v
raised-lowered s v l f =
    ap (λ (u : List ℤ). lowered s (raised s u)) (eight v (pos 0) l)
    ∙ simp (back s (get_or v 1 (pos 0)) (f 1 (omega arith)), back s (get_or v 3 (pos 0)) (f 3 (omega arith)), back s (get_or v 5 (pos 0)) (f 5 (omega arith)), back s (get_or v 7 (pos 0)) (f 7 (omega arith)))
    (sym (eight v (pos 0) l))

-- ---- the distance of a raised octet
raised-same : (w : ℕ) (z : ℤ) → w ≤ 32 → Same (2 ^ w) (int_wrap w32 (z +ℤ pos (radius w))) (z +ℤ pos (radius w))
raised-same w z h = same-sym (2 ^ w) (z +ℤ pos (radius w)) (int_wrap w32 (z +ℤ pos (radius w))) (same_power w 32 (z +ℤ pos (radius w)) (int_wrap w32 (z +ℤ pos (radius w))) h (wrapped_same (z +ℤ pos (radius w))))

raised-cost : (w : ℕ) (z : ℤ) (b : ℕ) → 0 < w → w ≤ 32 → b < 2 → cost (radius w) (int_wrap w32 (z +ℤ pos (radius w))) b ≡ cost (radius w) z (1 - b)
raised-cost w z zero p h hb =
    cost-zero (radius w) (int_wrap w32 (z +ℤ pos (radius w)))
    ∙ ap (λ (f : ℤ). nat_abs f * nat_abs f) (fold_same w (int_wrap w32 (z +ℤ pos (radius w))) (z -ℤ pos (radius w)) p
    (same_trans (2 ^ w) (int_wrap w32 (z +ℤ pos (radius w))) (z +ℤ pos (radius w)) (z -ℤ pos (radius w)) (raised-same w z h)
    (record { here = 0; there = 1; tie = omega (arith, ints, radius_twice w p) })))
    ∙ sym (cost-one (radius w) z)
raised-cost w z (suc zero) p h hb =
    cost-one (radius w) (int_wrap w32 (z +ℤ pos (radius w)))
    ∙ ap (λ (f : ℤ). nat_abs f * nat_abs f) (fold_same w (int_wrap w32 (z +ℤ pos (radius w)) -ℤ pos (radius w)) z p
    (record { here = s.here; there = s.there; tie = omega (arith, ints, s.tie) }))
    ∙ sym (cost-zero (radius w) z)
  where
    s : Same (2 ^ w) (int_wrap w32 (z +ℤ pos (radius w))) (z +ℤ pos (radius w))
    s = raised-same w z h
raised-cost w z (suc (suc b)) p h hb = absurd (omega arith)

raised-gap : (w : ℕ) (v : List ℤ) (bs : List ℕ) → 0 < w → w ≤ 32 → binary bs ≡ true → gap (radius w) (raised (pos (radius w)) v) bs ≡ gap (radius w) v (turned bs)
unfolding cost
raised-gap w [] bs p h t = refl
raised-gap w (x ∷ []) [] p h t = refl
raised-gap w (x ∷ []) (b ∷ []) p h t = refl
raised-gap w (x ∷ []) (c ∷ b ∷ bs) p h t = refl
raised-gap w (x ∷ y ∷ v) [] p h t = refl
raised-gap w (x ∷ y ∷ v) (b ∷ []) p h t = refl
raised-gap w (x ∷ y ∷ v) (c ∷ b ∷ bs) p h t =
    let q : (ltb c 2 ≡ true) × ((ltb b 2 && binary bs) ≡ true) = and_parts (ltb c 2) (ltb b 2 && binary bs) t in
    let u : (ltb b 2 ≡ true) × (binary bs ≡ true) = and_parts (ltb b 2) (binary bs) q.1 in
    omega (arith, raised-cost w y b p h (ltb-true b 2 u.0), raised-gap w v bs p h u.1)

pub raised-distance : (w : ℕ) (v : List ℤ) (j : ℕ) → 0 < w → w ≤ 32 → j < 8 → distance w (raised (pos (radius w)) v) j ≡ distance w v (j + 8)
raised-distance w v j p h l =
    distance-gap w (raised (pos (radius w)) v) j ∙ raised-gap w v (word j) p h (word-binary j (omega arith))
    ∙ ap (gap (radius w) v) (sym (word-turned j l)) ∙ sym (distance-gap w v (j + 8))
