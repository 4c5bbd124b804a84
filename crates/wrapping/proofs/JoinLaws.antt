-- The distances of two wrappings add where they are joined.
use Rattle.std.proofs.Common.{◌≡◌, ℕ, zero, suc, ◌+◌, ◌*◌, ◌/◌, ◌%◌, ◌^◌, ◌<◌, ◌≤◌, List, [], ◌∷◌, length, get_or, ℤ, pos, ◌+ℤ◌, ◌*ℤ◌, neg_ℤ, sym, refl, ap, ◌∙◌, subst, ap₂, inl, inr, arith}
use lib.Bits.{bit_xor, xor_mod, xor_shr}
use Rattle.std.proofs.lemmas.Int.{ints}
use Rattle.std.proofs.lemmas.Bool.{cases_eq}
use Rattle.ring.specs.Rows.{plus, times, product}
use Rattle.ring.specs.Integers.{integers}
use Rattle.ring.proofs.RowLaws.{length-plus, length-times, plus_medial}
use Rattle.ring.proofs.Turns.{slice_index_or-plus, slice_index_or-times}
use Rattle.ring.proofs.Products.{length-product, plus-product}
use Rattle.code.specs.Widths.{radius}
use Rattle.code.specs.Folds.{Same}
use Rattle.code.specs.Words.{word, binary_sum}
use Rattle.code.specs.Messages.{number}
use Rattle.code.specs.Rows.{Alike, whole, farthest}
use Rattle.code.proofs.FoldLaws.{radius-pos, radius_twice}
use Rattle.code.proofs.WordLaws.{word-length, word_xor}
use Rattle.code.proofs.MessageLaws.{number_even, number_odd, number-below}
use Rattle.wrapping.specs.Secrets.{secret}
use Rattle.wrapping.specs.Wraps.{position, measured}
use Rattle.wrapping.specs.Joins.{joined, xored}
use Rattle.wrapping.proofs.Spreads.{spread}
use Rattle.wrapping.proofs.Alikes.{same_by, alike_by, alike_cons, alike_refl, alike_plus, alike_product}
use Rattle.wrapping.proofs.Reductions.{length_whole, same-remainder}
use Rattle.wrapping.proofs.SecretLaws.{length-secret, length-measured}
use Rattle.wrapping.proofs.Offsets.{words, length-words, words-at, offset, offset_is, length-offset, offset-below, below-offset, octet-squares_alike, octet-triangle}

-- the joined coefficients are the sums
pub joined_agrees : (w : ℕ) (a b : List ℕ) → length a ≡ length b → Alike (2 ^ w) (whole (joined w a b)) (plus integers (whole a) (whole b))
unfolding joined plus
joined_agrees w [] b l = alike_refl (2 ^ w) []
joined_agrees w (x ∷ a) [] l = absurd (omega arith)
joined_agrees w (x ∷ a) (y ∷ b) l =
    alike_cons (2 ^ w) (pos ((x + y) % 2 ^ w)) (pos x +ℤ pos y) (whole (joined w a b)) (plus integers (whole a) (whole b)) (same-remainder (2 ^ w) (x + y)) (joined_agrees w a b (omega arith))

-- ---- the words of an exclusive-or
xored-at : (left right : List ℕ) (i : ℕ) → length left ≡ length right → get_or (xored left right) i 0 ≡ bit_xor (get_or left i 0) (get_or right i 0)
unfolding xored
xored-at [] [] i l = refl
xored-at [] (y ∷ right) i l = absurd (omega arith)
xored-at (x ∷ left) [] i l = absurd (omega arith)
xored-at (x ∷ left) (y ∷ right) zero l = refl
xored-at (x ∷ left) (y ∷ right) (suc i) l = xored-at left right i (omega arith)

pub number-xored : (left right : List ℕ) (i : ℕ) → length left ≡ length right → number (xored left right) i ≡ bit_xor (number left i) (number right i)
number-xored left right i l =
    elim (cases_eq (i % 2) 0) [
      | inl e ↦ number_even (xored left right) i e
          ∙ ap (λ (x : ℕ). x % 16) (xored-at left right (i / 2) l)
          ∙ xor_mod (get_or left (i / 2) 0) (get_or right (i / 2) 0) 4
          ∙ sym (ap₂ bit_xor (number_even left i e) (number_even right i e))
      | inr n ↦ number_odd (xored left right) i (odd n)
          ∙ ap (λ (x : ℕ). x / 16 % 16) (xored-at left right (i / 2) l)
          ∙ ap (λ (x : ℕ). x % 16) (xor_shr (get_or left (i / 2) 0) (get_or right (i / 2) 0) 4)
          ∙ xor_mod (get_or left (i / 2) 0 / 16) (get_or right (i / 2) 0 / 16) 4
          ∙ sym (ap₂ bit_xor (number_odd left i (odd n)) (number_odd right i (odd n)))
    ]
  where
    odd : (i % 2 ≡ 0 → ⊥) → i % 2 ≡ 1
    odd n = elim (cases_eq (i % 2) 1) [ inl e ↦ e | inr m ↦ absurd (n (even m)) ]
      where
        even : (i % 2 ≡ 1 → ⊥) → i % 2 ≡ 0
        even m = omega arith

binary-at : (a b : List ℕ) (j : ℕ) → length a ≡ length b → get_or (binary_sum a b) j 0 ≡ (get_or a j 0 + get_or b j 0) % 2
binary-at [] [] j l = refl
binary-at [] (y ∷ b) j l = absurd (omega arith)
binary-at (x ∷ a) [] j l = absurd (omega arith)
binary-at (x ∷ a) (y ∷ b) zero l = refl
binary-at (x ∷ a) (y ∷ b) (suc j) l = binary-at a b j (omega arith)

pub position-xored : (left right : List ℕ) (i : ℕ) → length left ≡ length right → position (xored left right) i ≡ (position left i + position right i) % 2
unfolding position
position-xored left right i l =
    ap (λ (k : ℕ). get_or (word k) (i % 8) 0) (number-xored left right (i / 8) l)
    ∙ ap (λ (bits : List ℕ). get_or bits (i % 8) 0) (sym (word_xor j k (number-below left (i / 8)) (number-below right (i / 8))))
    ∙ binary-at (word j) (word k) (i % 8) (word-length j (number-below left (i / 8)) ∙ sym (word-length k (number-below right (i / 8))))
  where
    j : ℕ
    j = number left (i / 8)

    k : ℕ
    k = number right (i / 8)

-- r times a sum modulo 2 is the same as the sum, modulo 2 r
same-binary : (r x y : ℕ) → Same (r + r) (neg_ℤ (pos r) *ℤ pos ((x + y) % 2)) (neg_ℤ (pos r) *ℤ pos x +ℤ neg_ℤ (pos r) *ℤ pos y)
same-binary r x y = record { here = 0; there = (x + y) / 2; tie = simp spread (omega (arith, ints, ap (λ (t : ℕ). r * t) halves)) }
  where
    halves : x + y ≡ 2 * ((x + y) / 2) + (x + y) % 2
    halves = omega arith

pub words-xored : (n w : ℕ) (left right : List ℕ) → 0 < w → length left ≡ length right → Alike (2 ^ w) (times integers (neg_ℤ (pos (radius w))) (words (xored left right) n)) (plus integers (times integers (neg_ℤ (pos (radius w))) (words left n)) (times integers (neg_ℤ (pos (radius w))) (words right n)))
words-xored n w left right hw l = record {
  long = lt (xored left right) ∙ sym (length-plus integers (t left) (t right) (lt left ∙ sym (lt right)) ∙ lt left);
  each = λ i h. each i (omega (arith, lt (xored left right)));
}
  where
    R : ℕ
    R = radius w

    t : List ℕ → List ℤ
    t message = times integers (neg_ℤ (pos R)) (words message n)

    lt : (message : List ℕ) → length (t message) ≡ n
    lt message = length-times integers (neg_ℤ (pos R)) (words message n) ∙ length-words message n

    at : (message : List ℕ) (i : ℕ) → i < n → get_or (t message) i (pos 0) ≡ neg_ℤ (pos R) *ℤ pos (position message i)
    at message i h = slice_index_or-times integers (neg_ℤ (pos R)) (words message n) i ∙ ap (λ (z : ℤ). neg_ℤ (pos R) *ℤ z) (words-at message n i h)

    each : (i : ℕ) → i < n → Same (2 ^ w) (get_or (t (xored left right)) i (pos 0)) (get_or (plus integers (t left) (t right)) i (pos 0))
    each i h =
        same_by (2 ^ w)
        (at (xored left right) i h ∙ ap (λ (b : ℕ). neg_ℤ (pos R) *ℤ pos b) (position-xored left right i l))
        (slice_index_or-plus integers (t left) (t right) i (lt left ∙ sym (lt right)) ∙ ap₂ ◌+ℤ◌ (at left i h) (at right i h))
        (subst (λ (m : ℕ). Same m (neg_ℤ (pos R) *ℤ pos ((position left i + position right i) % 2)) (neg_ℤ (pos R) *ℤ pos (position left i) +ℤ neg_ℤ (pos R) *ℤ pos (position right i)))
        (radius_twice w hw) (same-binary R (position left i) (position right i)))

-- ---- joins
module _ (n w : ℕ) (f' : List ℤ) (a b left right : List ℕ) (hw : 0 < w) (some : 0 < n) (lf : length f' ≡ n) (la : length a ≡ n) (lb : length b ≡ n) (lm : length left ≡ length right) where
  -- the offset of a join is the sum of the offsets
  pub join-offset : Alike (2 ^ w) (offset w (measured n f' (joined w a b)) (xored left right)) (plus integers (offset w (measured n f' a) left) (offset w (measured n f' b) right))
  unfolding measured
  join-offset =
      alike_by (2 ^ w)
      (offset_is n w (whole (joined w a b) · f) (xored left right) (lp (whole (joined w a b))))
      (ap₂ (plus integers) (offset_is n w (whole a · f) left (lp (whole a))) (offset_is n w (whole b · f) right (lp (whole b))) ∙ plus_medial integers (whole a · f) (t left) (whole b · f) (t right))
      (alike_plus (2 ^ w) (whole (joined w a b) · f) (plus integers (whole a · f) (whole b · f)) (t (xored left right)) (plus integers (t left) (t right))
      (lp (whole (joined w a b)) ∙ sym (lt (xored left right)))
      sums
      (words-xored n w left right hw lm))
    where
      f : List ℤ
      f = secret f'

      infixl 20 ◌·◌
      ◌·◌ : List ℤ → List ℤ → List ℤ
      x · y = product integers n x y

      t : List ℕ → List ℤ
      t message = times integers (neg_ℤ (pos (radius w))) (words message n)

      lt : (message : List ℕ) → length (t message) ≡ n
      lt message = length-times integers (neg_ℤ (pos (radius w))) (words message n) ∙ length-words message n

      lg : length f ≡ n
      lg = length-secret f' ∙ lf

      lp : (x : List ℤ) → length (x · f) ≡ n
      lp x = length-product integers n some x f lg

      lA : length (whole a) ≡ n
      lA = length_whole a ∙ la

      lB : length (whole b) ≡ n
      lB = length_whole b ∙ lb

      sums : Alike (2 ^ w) (whole (joined w a b) · f) (plus integers (whole a · f) (whole b · f))
      sums =
          alike_by (2 ^ w) refl (sym (plus-product integers n some (whole a) (whole b) f lA lB lg))
          (alike_product (2 ^ w) n (whole (joined w a b)) (plus integers (whole a) (whole b)) f some (length-plus integers (whole a) (whole b) (lA ∙ sym lB) ∙ lA) lg (joined_agrees w a b (la ∙ sym lb)))

pub join_near : (n w L M : ℕ) (f : List ℤ) (a b left right : List ℕ) → 0 < w → 0 < n → length f ≡ n → length a ≡ n → length b ≡ n → length left ≡ length right → farthest w (measured n f a) left ≤ L * L → farthest w (measured n f b) right ≤ M * M → farthest w (measured n f (joined w a b)) (xored left right) ≤ (L + M) * (L + M)
join_near n w L M f a b left right hw some lf la lb lm ha hb =
    below-offset w (m (joined w a b)) (xored left right) ((L + M) * (L + M)) (λ i h.
    let k : i < n / 8 = omega (arith, ap (λ (x : ℕ). x / 8) (lv (joined w a b))) in
    omega (
      arith,
      octet-squares_alike w (offset w (m (joined w a b)) (xored left right)) (plus integers x y) i hw (join-offset n w f a b left right hw some lf la lb lm),
      octet-triangle (radius w) L M x y i (radius-pos w) (length-offset w (m a) left ∙ lv a ∙ sym (length-offset w (m b) right ∙ lv b))
          (offset-below w (m a) left (L * L) ha i (under a i k))
          (offset-below w (m b) right (M * M) hb i (under b i k)),
    ))
  where
    m : List ℕ → List ℤ
    m c = measured n f c

    lv : (c : List ℕ) → length (m c) ≡ n
    lv c = length-measured n f c some lf

    under : (c : List ℕ) (i : ℕ) → i < n / 8 → i < length (m c) / 8
    under c i h = omega (arith, ap (λ (x : ℕ). x / 8) (lv c))

    x : List ℤ
    x = offset w (m a) left

    y : List ℤ
    y = offset w (m b) right
