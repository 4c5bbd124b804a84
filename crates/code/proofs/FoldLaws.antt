-- The laws of folds, for every radius.
use Rattle.std.proofs.Common.{◌≡◌, ℕ, suc, ◌+◌, ◌-◌, ◌*◌, ◌^◌, ◌<◌, ◌≤◌, ltb, ℤ, pos, negsuc, ◌+ℤ◌, ◌-ℤ◌, neg_ℤ, nat_abs, ◌≤ℤ◌, ◌<ℤ◌, sym, ap, ◌∙◌, subst, inl, inr, mod-lt, suc-mul, add-mul, one-mul, pow-suc, arith, pow_pos, pow_mono}
use Rattle.std.specs.Int.{int_rem_euclid}
use Rattle.std.proofs.lemmas.Int.{ints, by_lt_z}
use Rattle.std.proofs.lemmas.Bool.{cond_both, cond-true, cond-false, lt-ltb, le-ltb, ltb-true, ltb-false, cases_order}
use Rattle.code.specs.Widths.{radius}
use Rattle.code.specs.Folds.{rest, fold, Same, Folded}
use Rattle.code.proofs.Multiples.{same_refl, same-sym, same_trans, same_add, same_less, same_rest}

-- ---- the radius
pub radius-pos : (w : ℕ) → 0 < radius w
unfolding radius
radius-pos w = pow_pos (w - 1)

pub radius-low : (w : ℕ) → 8 ≤ w → 128 ≤ radius w
unfolding radius
radius-low w h = pow_mono {i = 7} {j = w - 1} (omega arith)

pub radius-high : (w : ℕ) → w ≤ 11 → radius w ≤ 1024
unfolding radius
radius-high w h = pow_mono {i = w - 1} {j = 10} (omega arith)

pub radius_twice : (w : ℕ) → 0 < w → radius w + radius w ≡ 2 ^ w
unfolding radius
radius_twice w h = omega (arith, ap (λ (e : ℕ). 2 ^ e) next, pow-suc 2 (w - 1))
  where
    next : suc (w - 1) ≡ w
    next = omega arith

pub radius-next : (w : ℕ) → 0 < w → radius (w + 1) ≡ radius w + radius w
unfolding radius
radius-next w h = ap (λ (e : ℕ). 2 ^ e) (omega arith) ∙ sym (radius_twice w h)

-- ---- the remainder
pub rest_below : (r : ℕ) (z : ℤ) → 0 < r → rest r z < r + r
unfolding rest
rest_below r (pos a) h = mod-lt a (omega arith)
rest_below r (negsuc a) h = omega arith

pub rest-same : (r : ℕ) (z : ℤ) → 0 < r → Same (r + r) z (pos (rest r z))
unfolding rest
rest-same r z h = same_rest (r + r) z (omega arith)

-- ---- the fold is in its range, and differs by a multiple
pub fold_folded : (r : ℕ) (z : ℤ) → 0 < r → Folded r (fold r z)
unfolding fold
fold_folded r z h =
    cond_both (ltb (rest r z) r) (pos (rest r z)) (pos (rest r z) -ℤ pos (r + r)) (λ f. Folded r f)
    (λ e. record { low = omega (arith, ints); high = omega (arith, ints, ltb-true (rest r z) r e) })
    (λ e. record { low = omega (arith, ints, ltb-false (rest r z) r e); high = omega (arith, ints, rest_below r z h) })

pub fold_differs : (r : ℕ) (z : ℤ) → 0 < r → Same (r + r) z (fold r z)
unfolding fold
fold_differs r z h =
    cond_both (ltb (rest r z) r) (pos (rest r z)) (pos (rest r z) -ℤ pos (r + r)) (λ f. Same (r + r) z f)
    (λ e. rest-same r z h)
    (λ e. same_trans (r + r) z (pos (rest r z)) (pos (rest r z) -ℤ pos (r + r)) (rest-same r z h) (same_less (r + r) (pos (rest r z))))

-- ---- two in the range that differ by a multiple are one
apart : (r : ℕ) (f g : ℤ) (i j : ℕ) → Folded r f → Folded r g → f +ℤ pos (i * (r + r)) ≡ g +ℤ pos (j * (r + r)) → i < j → ⊥
apart r f g i j hf hg e l =
    omega (arith, ints, hf.high, hg.low, e, more i j l (r + r))
  where
    more : (i j : ℕ) → i < j → (n : ℕ) → i * n + n ≤ j * n
    more i j l n = subst (λ (x : ℕ). i * n + n ≤ x * n) (sum i j l) (omega (arith, add-mul i (suc (j - suc i)) n, suc-mul (j - suc i) n))
      where
        sum : (i j : ℕ) → i < j → i + suc (j - suc i) ≡ j
        sum i j l = omega arith

pub folded_unique : (r : ℕ) (f g : ℤ) → Folded r f → Folded r g → Same (r + r) f g → f ≡ g
folded_unique r f g hf hg s =
    elim (cases_order s.here s.there) [
      | inl e ↦ omega (arith, ints, s.tie, ap (λ (k : ℕ). k * (r + r)) e)
      | inr d ↦ elim d [
        | inl l ↦ absurd (apart r f g s.here s.there hf hg s.tie l)
        | inr l ↦ absurd (apart r g f s.there s.here hg hf (sym s.tie) l)
      ]
    ]

-- the fold is what is in range and differs by a multiple
pub fold_is : (r : ℕ) (z f : ℤ) → 0 < r → Folded r f → Same (r + r) z f → fold r z ≡ f
fold_is r z f h hf s =
    folded_unique r (fold r z) f (fold_folded r z h) hf
    (same_trans (r + r) (fold r z) z f (same-sym (r + r) z (fold r z) (fold_differs r z h)) s)

pub fold_cong : (r : ℕ) (y z : ℤ) → 0 < r → Same (r + r) y z → fold r y ≡ fold r z
fold_cong r y z h s =
    fold_is r y (fold r z) h (fold_folded r z h) (same_trans (r + r) y z (fold r z) s (fold_differs r z h))

-- ---- the folds of x and of x - r are r apart
pub fold-halves : (r : ℕ) (x : ℤ) → 0 < r → nat_abs (fold r x) + nat_abs (fold r (x -ℤ pos r)) ≡ r
fold-halves r x h =
    by_lt_z (fold r x) (pos 0)
    (λ l. omega (arith, ints, fr.low, low l))
    (λ l. omega (arith, ints, fr.high, high l))
  where
    fr : Folded r (fold r x)
    fr = fold_folded r x h

    fs : Same (r + r) x (fold r x)
    fs = fold_differs r x h

    low : fold r x <ℤ pos 0 → fold r (x -ℤ pos r) ≡ fold r x +ℤ pos r
    low l =
        fold_is r (x -ℤ pos r) (fold r x +ℤ pos r) h (record { low = omega (arith, ints, fr.low); high = omega (arith, ints, l) })
        (record { here = fs.here + 1; there = fs.there; tie = omega (arith, ints, fs.tie, add-mul fs.here 1 (r + r), one-mul (r + r)) })

    high : pos 0 ≤ℤ fold r x → fold r (x -ℤ pos r) ≡ fold r x -ℤ pos r
    high l =
        fold_is r (x -ℤ pos r) (fold r x -ℤ pos r) h (record { low = omega (arith, ints, l); high = omega (arith, ints, fr.high) })
        (record { here = fs.here; there = fs.there; tie = omega (arith, ints, fs.tie) })

-- ---- the fold is the nearest to 0 of those that differ by a multiple
pub fold-least : (r : ℕ) (z y : ℤ) → 0 < r → Same (r + r) z y → nat_abs (fold r z) ≤ nat_abs y
fold-least r z y h s =
    by_lt_z y (pos r)
    (λ u. by_lt_z y (neg_ℤ (pos r)) (λ l. omega (arith, ints, fr.low, fr.high, l)) (λ l. inside l u))
    (λ u. omega (arith, ints, fr.low, fr.high, u))
  where
    fr : Folded r (fold r z)
    fr = fold_folded r z h

    inside : neg_ℤ (pos r) ≤ℤ y → y <ℤ pos r → nat_abs (fold r z) ≤ nat_abs y
    inside l u = omega (arith, ap nat_abs (fold_is r z y h (record { low = l; high = u }) s))

-- ---- |fold (x + y)| ≤ |fold x + fold y|
pub fold_sum : (r : ℕ) (x y : ℤ) → 0 < r → nat_abs (fold r (x +ℤ y)) ≤ nat_abs (fold r x +ℤ fold r y)
fold_sum r x y h =
    fold-least r (x +ℤ y) (fold r x +ℤ fold r y) h
    (same_add (r + r) x (fold r x) y (fold r y) (fold_differs r x h) (fold_differs r y h))

-- |fold x| ≤ |x|
pub fold_small : (r : ℕ) (z : ℤ) → 0 < r → nat_abs (fold r z) ≤ nat_abs z
fold_small r z h = fold-least r z z h (same_refl (r + r) z)

-- the fold at twice the radius of twice a number
pub fold_double : (r : ℕ) (z : ℤ) → 0 < r → fold (r + r) (z +ℤ z) ≡ fold r z +ℤ fold r z
fold_double r z h =
    fold_is (r + r) (z +ℤ z) (fold r z +ℤ fold r z) (omega arith)
    (record { low = omega (arith, ints, fr.low); high = omega (arith, ints, fr.high) })
    (record { here = fs.here; there = fs.there; tie = omega (arith, ints, fs.tie) })
  where
    fr : Folded r (fold r z)
    fr = fold_folded r z h

    fs : Same (r + r) z (fold r z)
    fs = fold_differs r z h

-- the fold at a width, of numbers that differ by a multiple of 2 ^ w
pub fold_same : (w : ℕ) (y z : ℤ) → 0 < w → Same (2 ^ w) y z → fold (radius w) y ≡ fold (radius w) z
fold_same w y z h s = fold_cong (radius w) y z (radius-pos w) (subst (λ (n : ℕ). Same n y z) (sym (radius_twice w h)) s)

pub unsigned_abs_sum : (x y : ℤ) → nat_abs (x +ℤ y) ≤ nat_abs x + nat_abs y
unsigned_abs_sum x y = omega (arith, ints)

pub fold_bound : (r : ℕ) (z : ℤ) → 0 < r → nat_abs (fold r z) ≤ r
fold_bound r z h = omega (arith, ints, (fold_folded r z h).low, (fold_folded r z h).high)

-- ---- what the code computes
pub rest_is : (r : ℕ) (x by m : ℤ) → by ≡ pos (r + r) → m ≡ int_rem_euclid x by → m ≡ pos (rest r x)
unfolding rest
rest_is r (pos a) by m e f = f ∙ ap (λ (d : ℤ). int_rem_euclid (pos a) d) e
rest_is r (negsuc a) by m e f = f ∙ ap (λ (d : ℤ). int_rem_euclid (negsuc a) d) e

pub fold-low : (r : ℕ) (x by m : ℤ) → 0 < r → by ≡ pos (r + r) → m ≡ int_rem_euclid x by → m <ℤ pos r → m ≡ fold r x
unfolding fold
fold-low r x by m h e f l =
    let q : m ≡ pos (rest r x) = rest_is r x by m e f in
    q ∙ sym (cond-true (ltb (rest r x) r) (pos (rest r x)) (pos (rest r x) -ℤ pos (r + r)) (lt-ltb (rest r x) r (omega (arith, ints, q, l))))

pub fold-high : (r : ℕ) (x by m : ℤ) → 0 < r → by ≡ pos (r + r) → m ≡ int_rem_euclid x by → pos r ≤ℤ m → m -ℤ pos (r + r) ≡ fold r x
unfolding fold
fold-high r x by m h e f l =
    let q : m ≡ pos (rest r x) = rest_is r x by m e f in
    ap (λ (z : ℤ). z -ℤ pos (r + r)) q ∙ sym (cond-false (ltb (rest r x) r) (pos (rest r x)) (pos (rest r x) -ℤ pos (r + r)) (le-ltb (rest r x) r (omega (arith, ints, q, l))))
