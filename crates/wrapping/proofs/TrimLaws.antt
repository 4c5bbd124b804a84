-- A trim halves the distance together with what the halving adds.
use Rattle.std.proofs.Common.{◌≡◌, ℕ, zero, suc, ◌+◌, ◌-◌, ◌*◌, ◌/◌, ◌%◌, ◌^◌, ◌<◌, ◌≤◌, List, [], ◌∷◌, map, length, get_or, ℤ, pos, ◌+ℤ◌, ◌*ℤ◌, neg_ℤ, nat_abs, sym, refl, ap, ◌∙◌, ap₂, mul-le-mul, arith}
use native.Mathlib.Nat.{div-add-mod}
use Rattle.std.specs.List.{range_with_len}
use Rattle.std.proofs.lemmas.List.{length-map, get_or-replicate}
use Rattle.std.proofs.lemmas.Int.{ints}
use Rattle.ring.specs.Rows.{plus, times, zeros, product}
use Rattle.ring.specs.Integers.{integers}
use Rattle.ring.proofs.RowLaws.{length-plus, length-times, plus_comm, plus_assoc, plus-zeros, times-plus, times-times, times-zeros}
use Rattle.ring.proofs.Products.{length-product, plus-product, times-product}
use Rattle.code.specs.Widths.{radius}
use Rattle.code.specs.Folds.{fold, Same}
use Rattle.code.specs.Words.{word}
use Rattle.code.specs.Distances.{folded_squares}
use Rattle.code.specs.Rows.{Alike, whole, octet, farthest}
use Rattle.code.proofs.FoldLaws.{radius-pos, radius_twice, fold_double}
use Rattle.code.proofs.MessageLaws.{number_past}
use Rattle.code.proofs.RootLaws.{root_least}
use Rattle.wrapping.specs.Secrets.{secret}
use Rattle.wrapping.specs.Wraps.{position, measured}
use Rattle.wrapping.specs.Trims.{halved, halving, trim_loss, trimmed_allowance}
use Rattle.wrapping.proofs.Alikes.{alike_by, alike_cons, alike_refl, alike_plus, alike_product}
use Rattle.wrapping.proofs.Reductions.{length_whole}
use Rattle.wrapping.proofs.SecretLaws.{length-secret, length-measured}
use Rattle.wrapping.proofs.Offsets.{words, length-words, offset, offset_is, length-offset, offset-below, below-offset, octet-times, octet-squares_alike, octet-triangle}

-- the radius of a width is twice that of the width before
pub radius-halves : (w : ℕ) → 1 < w → radius (w - 1) + radius (w - 1) ≡ radius w
unfolding radius
radius-halves w h = radius_twice (w - 1) (omega arith)

-- ---- twice the halved coefficients are the coefficients with what halving adds
same-halved : (w x : ℕ) → 0 < w → Same (2 ^ w) (pos 2 *ℤ pos (halved w x)) (pos x +ℤ pos (x % 2))
unfolding halved radius
same-halved w x hw = record {
  here = (x + 1) / 2 / 2 ^ (w - 1);
  there = 0;
  tie = omega (arith, ints, div-add-mod ((x + 1) / 2) (2 ^ (w - 1)), ap (λ (p : ℕ). (x + 1) / 2 / 2 ^ (w - 1) * p) (radius_twice w hw));
}

pub halved_agrees : (w : ℕ) (c : List ℕ) → 0 < w → Alike (2 ^ w) (times integers (pos 2) (whole (map (halved w) c))) (plus integers (whole c) (whole (map halving c)))
unfolding plus times
halved_agrees w [] hw = alike_refl (2 ^ w) []
halved_agrees w (x ∷ c) hw =
    alike_cons (2 ^ w) (pos 2 *ℤ pos (halved w x)) (pos x +ℤ pos (x % 2)) (times integers (pos 2) (whole (map (halved w) c))) (plus integers (whole c) (whole (map halving c))) (same-halved w x hw) (halved_agrees w c hw)

-- ---- an empty message has the zero word everywhere
position_none : (i : ℕ) → position [] i ≡ 0
unfolding position word
position_none i =
    ap (λ (k : ℕ). get_or (word k) (i % 8) 0) (number_past [] (i / 8) (omega arith))
    ∙ get_or-replicate 8 (i % 8) 0 0 (omega arith)

pub words_none : (n : ℕ) → words [] n ≡ zeros integers n
unfolding words
words_none n = from 0 n
  where
    from : (a n : ℕ) → whole (map (position []) (range_with_len a n)) ≡ zeros integers n
    from a zero = refl
    from a (suc n) = ap₂ {C = List ℤ} ◌∷◌ (ap pos (position_none a)) (from (a + 1) n)

pub offset_none : (w : ℕ) (v : List ℤ) → offset w v [] ≡ v
offset_none w v =
    offset_is (length v) w v [] refl
    ∙ ap (λ (row : List ℤ). plus integers v (times integers (neg_ℤ (pos (radius w))) row)) (words_none (length v))
    ∙ ap (plus integers v) (times-zeros integers (neg_ℤ (pos (radius w))) (length v))
    ∙ plus-zeros integers v (length v) refl

-- ---- folds of a doubled row
four_squares : (r : ℕ) (xs : List ℤ) → 0 < r → folded_squares (r + r) (times integers (pos 2) xs) ≡ 4 * folded_squares r xs
unfolding times
four_squares r [] h = refl
four_squares r (x ∷ xs) h =
    omega (arith, ap (λ (z : ℤ). nat_abs z * nat_abs z) folded, ap (λ (k : ℕ). k * k) (twice (fold r x)), four_squares r xs h)
  where
    folded : fold (r + r) (pos 2 *ℤ x) ≡ fold r x +ℤ fold r x
    folded = ap (fold (r + r)) (both x) ∙ fold_double r x h
      where
        both : (x : ℤ) → pos 2 *ℤ x ≡ x +ℤ x
        both x = omega (arith, ints)

    twice : (z : ℤ) → nat_abs (z +ℤ z) ≡ 2 * nat_abs z
    twice z = omega (arith, ints)

-- ---- trims
module _ (n w : ℕ) (f' : List ℤ) (c message : List ℕ) (hw : 1 < w) (some : 0 < n) (lf : length f' ≡ n) (lc : length c ≡ n) where
  -- twice the offset of a trim is the offset before with what halving adds, times f
  pub trim-offset : Alike (2 ^ w) (times integers (pos 2) (offset (w - 1) (measured n f' (map (halved w) c)) message)) (plus integers (offset w (measured n f' c) message) (offset w (measured n f' (map halving c)) []))
  unfolding measured
  trim-offset =
      alike_by (2 ^ w)
      (ap (times integers (pos 2)) (offset_is n (w - 1) (half · f) message (lp half)) ∙ times-plus integers (pos 2) (half · f) (times integers (neg_ℤ (pos (radius (w - 1)))) s) ∙ ap (plus integers (times integers (pos 2) (half · f))) doubled)
      (ap₂ (plus integers) (offset_is n w (whole c · f) message (lp (whole c))) (offset_none w (δ · f)) ∙ order)
      (alike_plus (2 ^ w) (times integers (pos 2) (half · f)) (plus integers (whole c · f) (δ · f)) t t (length-times integers (pos 2) (half · f) ∙ lp half ∙ sym lt) sums (alike_refl (2 ^ w) t))
    where
      f : List ℤ
      f = secret f'

      infixl 20 ◌·◌
      ◌·◌ : List ℤ → List ℤ → List ℤ
      x · y = product integers n x y

      half : List ℤ
      half = whole (map (halved w) c)

      δ : List ℤ
      δ = whole (map halving c)

      s : List ℤ
      s = words message n

      t : List ℤ
      t = times integers (neg_ℤ (pos (radius w))) s

      lt : length t ≡ n
      lt = length-times integers (neg_ℤ (pos (radius w))) s ∙ length-words message n

      lg : length f ≡ n
      lg = length-secret f' ∙ lf

      lp : (x : List ℤ) → length (x · f) ≡ n
      lp x = length-product integers n some x f lg

      lC : length (whole c) ≡ n
      lC = length_whole c ∙ lc

      lh : length half ≡ n
      lh = length_whole (map (halved w) c) ∙ length-map c (halved w) ∙ lc

      ld : length δ ≡ n
      ld = length_whole (map halving c) ∙ length-map c halving ∙ lc

      doubled : times integers (pos 2) (times integers (neg_ℤ (pos (radius (w - 1)))) s) ≡ t
      doubled = sym (times-times integers (pos 2) (neg_ℤ (pos (radius (w - 1)))) s) ∙ ap (λ (x : ℤ). times integers x s) twice
        where
          twice : pos 2 *ℤ neg_ℤ (pos (radius (w - 1))) ≡ neg_ℤ (pos (radius w))
          twice = omega (arith, ints, radius-halves w hw)

      order : plus integers (plus integers (whole c · f) t) (δ · f) ≡ plus integers (plus integers (whole c · f) (δ · f)) t
      order = plus_assoc integers (whole c · f) t (δ · f) ∙ ap (plus integers (whole c · f)) (plus_comm integers t (δ · f)) ∙ sym (plus_assoc integers (whole c · f) (δ · f) t)

      sums : Alike (2 ^ w) (times integers (pos 2) (half · f)) (plus integers (whole c · f) (δ · f))
      sums =
          alike_by (2 ^ w) (sym (times-product integers n some (pos 2) half f lh lg)) (sym (plus-product integers n some (whole c) δ f lC ld lg))
          (alike_product (2 ^ w) n (times integers (pos 2) half) (plus integers (whole c) δ) f some (length-plus integers (whole c) δ (lC ∙ sym ld) ∙ lC) lg (halved_agrees w c (omega arith)))

-- the loss covers what halving adds
pub loss_covers : (n w : ℕ) (f : List ℤ) (c : List ℕ) → farthest w (measured n f (map halving c)) [] ≤ trim_loss n w f c * trim_loss n w f c
unfolding trim_loss
loss_covers n w f c = (root_least (farthest w (measured n f (map halving c)) [])).enough

-- four times a square at most that of a sum: the square is at most that of the half of the sum, rounded up
quarter : (x L D : ℕ) → 4 * x ≤ (L + D) * (L + D) → x ≤ trimmed_allowance L D * trimmed_allowance L D
unfolding trimmed_allowance
quarter x L D h = half ((L + D + 1) / 2) (omega arith)
  where
    half : (T : ℕ) → L + D ≤ 2 * T → x ≤ T * T
    half T l = omega (arith, mul-le-mul l l)

pub trim_near : (n w L : ℕ) (f : List ℤ) (c message : List ℕ) → 1 < w → 0 < n → length f ≡ n → length c ≡ n → farthest w (measured n f c) message ≤ L * L → farthest (w - 1) (measured n f (map (halved w) c)) message ≤ trimmed_allowance L (trim_loss n w f c) * trimmed_allowance L (trim_loss n w f c)
trim_near n w L f c message hw some lf lc h =
    below-offset (w - 1) (m (map (halved w) c)) message (trimmed_allowance L D * trimmed_allowance L D) (λ i k.
    quarter (folded_squares (radius (w - 1)) (octet z i)) L D (step i (omega (arith, ap (λ (x : ℕ). x / 8) (lv (map (halved w) c))))))
  where
    D : ℕ
    D = trim_loss n w f c

    m : List ℕ → List ℤ
    m row = measured n f row

    lv : (row : List ℕ) → length (m row) ≡ n
    lv row = length-measured n f row some lf

    under : (row : List ℕ) (i : ℕ) → i < n / 8 → i < length (m row) / 8
    under row i h = omega (arith, ap (λ (x : ℕ). x / 8) (lv row))

    x : List ℤ
    x = offset w (m c) message

    y : List ℤ
    y = offset w (m (map halving c)) []

    z : List ℤ
    z = offset (w - 1) (m (map (halved w) c)) message

    lxy : length x ≡ length y
    lxy = length-offset w (m c) message ∙ lv c ∙ sym (length-offset w (m (map halving c)) [] ∙ lv (map halving c))

    four : (i : ℕ) → folded_squares (radius w) (octet (times integers (pos 2) z) i) ≡ 4 * folded_squares (radius (w - 1)) (octet z i)
    four i =
        ap₂ folded_squares (sym (radius-halves w hw)) (octet-times (pos 2) z i) ∙ four_squares (radius (w - 1)) (octet z i) (radius-pos (w - 1))

    step : (i : ℕ) → i < n / 8 → 4 * folded_squares (radius (w - 1)) (octet z i) ≤ (L + D) * (L + D)
    step i k =
        omega (
          arith,
          four i,
          octet-squares_alike w (times integers (pos 2) z) (plus integers x y) i (omega arith) (trim-offset n w f c message hw some lf lc),
          octet-triangle (radius w) L D x y i (radius-pos w) lxy
              (offset-below w (m c) message (L * L) h i (under c i k))
              (offset-below w (m (map halving c)) [] (D * D) (loss_covers n w f c) i (under (map halving c) i k)),
        )
