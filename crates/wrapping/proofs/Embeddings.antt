-- Rows with the words of a message put on their top.
use Rattle.std.proofs.Common.{◌≡◌, ℕ, ◌+◌, ◌*◌, ◌^◌, ◌<◌, List, [], ◌∷◌, map, length, get_or, ℤ, pos, ◌+ℤ◌, ◌*ℤ◌, neg_ℤ, sym, refl, ap, ◌∙◌, subst, ap₂, arith}
use Rattle.std.proofs.lemmas.List.FromFn.{get_or-map-range_with_len}
use Rattle.std.proofs.lemmas.List.{get_or-map}
use Rattle.std.proofs.lemmas.Int.{ints}
use Rattle.ring.specs.Rows.{plus, times, product}
use Rattle.ring.specs.Integers.{integers}
use Rattle.ring.proofs.RowLaws.{length-plus, length-times}
use Rattle.ring.proofs.Turns.{slice_index_or-plus, slice_index_or-times}
use Rattle.ring.proofs.Products.{length-product, plus-product, times-product}
use Rattle.code.specs.Widths.{radius}
use Rattle.code.specs.Folds.{Same}
use Rattle.code.specs.Rows.{Alike, whole}
use Rattle.code.proofs.RowLaws.{whole-at}
use Rattle.wrapping.specs.Secrets.{secret}
use Rattle.wrapping.specs.Wraps.{rounded, position, embedded, embedded_row}
use Rattle.wrapping.proofs.Spreads.{spread}
use Rattle.wrapping.proofs.Alikes.{same_by, alike_refl, alike_trans, alike_plus, alike_product}
use Rattle.wrapping.proofs.Reductions.{length_whole, same-remainder}
use Rattle.wrapping.proofs.ExactErrors.{rounded_row, length-rounded}
use Rattle.wrapping.proofs.Offsets.{words, length-words, words-at, offset, offset_is, offset_alike}
use Rattle.wrapping.proofs.Coefficients.{length-embedded_row}
use Rattle.wrapping.proofs.SecretLaws.{length-secret, radius-secret}

-- what is added and taken away again
plus_back : (r : ℤ) (v s : List ℤ) → length v ≡ length s → plus integers (plus integers v (times integers r s)) (times integers (neg_ℤ r) s) ≡ v
unfolding plus times
plus_back r [] s l = refl
plus_back r (x ∷ v) [] l = absurd (omega arith)
plus_back r (x ∷ v) (y ∷ s) l = ap₂ {C = List ℤ} ◌∷◌ (simp spread (omega (arith, ints))) (plus_back r v s (omega arith))

-- a row with the words put on its top: the offset of its product with f is the row's product with f
pub offset-embedded : (n w : ℕ) (f' c u : List ℤ) (message : List ℕ) → 0 < w → 0 < n → length f' ≡ n → length u ≡ n → Alike (2 ^ w) c (plus integers u (times integers (pos (radius w)) (words message n))) → Alike (2 ^ w) (offset w (product integers n c (secret f')) message) (product integers n u (secret f'))
offset-embedded n w f' c u message hw some lf lu a =
    alike_trans (2 ^ w) (offset w (c · f) message) (offset w top message) (u · f) (offset_alike (2 ^ w) w (c · f) top message near)
    (subst (λ (row : List ℤ). Alike (2 ^ w) row (u · f)) (sym (offset_is n w top message lt ∙ plus_back R (u · f) s (lp u ∙ sym ls))) (alike_refl (2 ^ w) (u · f)))
  where
    f : List ℤ
    f = secret f'

    infixl 20 ◌·◌
    ◌·◌ : List ℤ → List ℤ → List ℤ
    a · b = product integers n a b

    R : ℤ
    R = pos (radius w)

    s : List ℤ
    s = words message n

    top : List ℤ
    top = plus integers (u · f) (times integers R s)

    ls : length s ≡ n
    ls = length-words message n

    lg : length f ≡ n
    lg = length-secret f' ∙ lf

    lp : (a : List ℤ) → length (a · f) ≡ n
    lp a = length-product integers n some a f lg

    lm : (a : List ℤ) → length a ≡ n → length (times integers R a) ≡ n
    lm a l = length-times integers R a ∙ l

    lt : length top ≡ n
    lt = length-plus integers (u · f) (times integers R s) (lp u ∙ sym (lm s ls)) ∙ lp u

    near : Alike (2 ^ w) (c · f) top
    near =
        alike_trans (2 ^ w) (c · f) (plus integers u (times integers R s) · f) top
        (alike_product (2 ^ w) n c (plus integers u (times integers R s)) f some (length-plus integers u (times integers R s) (lu ∙ sym (lm s ls)) ∙ lu) lg a)
        (subst (λ (row : List ℤ). Alike (2 ^ w) row top)
        (sym (plus-product integers n some u (times integers R s) f lu (lm s ls) lg ∙ ap (plus integers (u · f)) (times-product integers n some R s f ls lg)))
        (alike_plus (2 ^ w) (u · f) (u · f) (times integers R (s · f)) (times integers R s) (lp u ∙ sym (lm (s · f) (lp s))) (alike_refl (2 ^ w) (u · f)) (radius-secret n w f' s hw some lf ls)))

-- the coefficients are the rounded row with the words put on its top
pub wrap_agrees : (n w : ℕ) (row message : List ℕ) → length row ≡ n → Alike (2 ^ w) (whole (embedded_row n w row message)) (plus integers (rounded_row w row) (times integers (pos (radius w)) (words message n)))
unfolding embedded_row embedded
wrap_agrees n w row message l = record {
  long = lc ∙ sym (length-plus integers u t lt ∙ lu);
  each = λ i h. each i (omega (arith, lc));
}
  where
    c : List ℕ
    c = embedded_row n w row message

    u : List ℤ
    u = rounded_row w row

    t : List ℤ
    t = times integers (pos (radius w)) (words message n)

    lc : length (whole c) ≡ n
    lc = length_whole c ∙ length-embedded_row n w row message

    lu : length u ≡ n
    lu = length-rounded w row ∙ l

    lt : length u ≡ length t
    lt = lu ∙ sym (length-times integers (pos (radius w)) (words message n) ∙ length-words message n)

    together : (a r b : ℕ) → pos a +ℤ pos r *ℤ pos b ≡ pos (a + r * b)
    together a r b = omega (arith, ints)

    each : (i : ℕ) → i < n → Same (2 ^ w) (get_or (whole c) i (pos 0)) (get_or (plus integers u t) i (pos 0))
    each i h =
        same_by (2 ^ w)
        (whole-at c i ∙ ap pos (get_or-map-range_with_len (λ i. embedded w (get_or row i 0) (position message i)) 0 n i i 0 h (omega arith)))
        (slice_index_or-plus integers u t i lt
        ∙ ap₂ ◌+ℤ◌ (whole-at (map (rounded w) row) i ∙ ap pos (get_or-map (rounded w) row i 0 0 (omega arith)))
        (slice_index_or-times integers (pos (radius w)) (words message n) i ∙ ap (λ (z : ℤ). pos (radius w) *ℤ z) (words-at message n i h))
        ∙ together (rounded w (get_or row i 0)) (radius w) (position message i))
        (same-remainder (2 ^ w) (rounded w (get_or row i 0) + radius w * position message i))
