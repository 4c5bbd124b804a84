-- What is left of a row when the words of a message are taken away, and distances by it.
use Rattle.std.proofs.Common.{◌≡◌, ℕ, suc, ◌+◌, ◌*◌, ◌/◌, ◌%◌, ◌^◌, ◌<◌, ◌≤◌, List, [], ◌∷◌, map, length, get_or, ℤ, pos, ◌+ℤ◌, ◌*ℤ◌, neg_ℤ, nat_abs, sym, refl, ap, ◌∙◌, subst, ap₂, arith}
use Rattle.std.specs.List.{range_with_len}
use Rattle.std.proofs.lemmas.List.FromFn.{length-map-range_with_len, get_or-map-range_with_len}
use Rattle.std.proofs.lemmas.List.{ext_get_or}
use Rattle.std.proofs.lemmas.Int.{ints}
use Rattle.ring.specs.Rows.{plus, times}
use Rattle.ring.specs.Integers.{integers}
use Rattle.ring.proofs.RowLaws.{length-plus, length-times}
use Rattle.ring.proofs.Turns.{slice_index_or-plus, slice_index_or-times}
use Rattle.code.specs.Widths.{radius}
use Rattle.code.specs.Words.{word}
use Rattle.code.specs.Messages.{number}
use Rattle.code.specs.Distances.{distance, sums, differences, folded_squares, times as multiples}
use Rattle.code.specs.Rows.{Alike, whole, octet, farthest}
use Rattle.code.proofs.FoldLaws.{radius-pos, radius_twice, fold_cong}
use Rattle.code.proofs.DistanceLaws.{folds_triangle}
use Rattle.code.proofs.WordLaws.{word-length}
use Rattle.code.proofs.MessageLaws.{number-below}
use Rattle.code.proofs.RowLaws.{whole-at, octet-at, octet-length}
use Rattle.code.proofs.Agreement.{octet_alike}
use Rattle.code.proofs.Greatest.{farthest-above, farthest-below}
use Rattle.wrapping.specs.Wraps.{position}
use Rattle.wrapping.proofs.Spreads.{spread}
use Rattle.wrapping.proofs.Alikes.{alike_refl, alike_plus}
use Rattle.wrapping.proofs.Reductions.{length_whole}

-- the words of a message in a row of n
unfoldable pub words : List ℕ → ℕ → List ℤ
words message n = whole (map (position message) (range_with_len 0 n))

pub length-words : (message : List ℕ) (n : ℕ) → length (words message n) ≡ n
unfolding words
length-words message n = length_whole (map (position message) (range_with_len 0 n)) ∙ length-map-range_with_len (position message) 0 n

pub words-at : (message : List ℕ) (n i : ℕ) → i < n → get_or (words message n) i (pos 0) ≡ pos (position message i)
unfolding words
words-at message n i h = whole-at (map (position message) (range_with_len 0 n)) i ∙ ap pos (get_or-map-range_with_len (position message) 0 n i i 0 h (omega arith))

-- an octet of the words is a word
pub octet-words : (message : List ℕ) (n i : ℕ) → i < n / 8 → octet (words message n) i ≡ whole (word (number message i))
unfolding position
octet-words message n i h =
    ext_get_or (pos 0) (octet (words message n) i) (whole (word (number message i)))
    (octet-length (words message n) i ∙ sym (length_whole (word (number message i)) ∙ word-length (number message i) (number-below message i)))
    (λ j l.
    let k : j < 8 = omega (arith, octet-length (words message n) i) in
    let q : (8 * i + j) / 8 ≡ i = omega arith in
    let r : (8 * i + j) % 8 ≡ j = omega arith in
    octet-at (words message n) i j k
    ∙ words-at message n (8 * i + j) (omega arith)
    ∙ ap₂ (λ (a b : ℕ). pos (get_or (word (number message a)) b 0)) q r
    ∙ sym (whole-at (word (number message i)) j))

-- ---- octets of sums and multiples
pub octet-plus : (a b : List ℤ) (i : ℕ) → length a ≡ length b → octet (plus integers a b) i ≡ plus integers (octet a i) (octet b i)
octet-plus a b i l =
    let m : length (octet a i) ≡ length (octet b i) = octet-length a i ∙ sym (octet-length b i) in
    ext_get_or (pos 0) (octet (plus integers a b) i) (plus integers (octet a i) (octet b i))
    (octet-length (plus integers a b) i ∙ sym (length-plus integers (octet a i) (octet b i) m ∙ octet-length a i))
    (λ j h.
    let k : j < 8 = omega (arith, octet-length (plus integers a b) i) in
    octet-at (plus integers a b) i j k
    ∙ slice_index_or-plus integers a b (8 * i + j) l
    ∙ sym (slice_index_or-plus integers (octet a i) (octet b i) j m ∙ ap₂ ◌+ℤ◌ (octet-at a i j k) (octet-at b i j k)))

pub octet-times : (x : ℤ) (a : List ℤ) (i : ℕ) → octet (times integers x a) i ≡ times integers x (octet a i)
octet-times x a i =
    ext_get_or (pos 0) (octet (times integers x a) i) (times integers x (octet a i))
    (octet-length (times integers x a) i ∙ sym (length-times integers x (octet a i) ∙ octet-length a i))
    (λ j h.
    let k : j < 8 = omega (arith, octet-length (times integers x a) i) in
    octet-at (times integers x a) i j k
    ∙ slice_index_or-times integers x a (8 * i + j)
    ∙ sym (slice_index_or-times integers x (octet a i) j ∙ ap (λ (z : ℤ). x *ℤ z) (octet-at a i j k)))

-- ---- the row less the radius times the words
unfoldable pub offset : ℕ → List ℤ → List ℕ → List ℤ
offset w v message = plus integers v (times integers (neg_ℤ (pos (radius w))) (words message (length v)))

differences-plus : (r : ℕ) (v : List ℤ) (bs : List ℕ) → differences v (multiples r bs) ≡ plus integers v (times integers (neg_ℤ (pos r)) (whole bs))
unfolding plus times
differences-plus r [] bs = refl
differences-plus r (x ∷ v) [] = refl
differences-plus r (x ∷ v) (b ∷ bs) = ap₂ {C = List ℤ} ◌∷◌ (simp spread (omega (arith, ints))) (differences-plus r v bs)

pub length-offset : (w : ℕ) (v : List ℤ) (message : List ℕ) → length (offset w v message) ≡ length v
unfolding offset
length-offset w v message =
    length-plus integers v (times integers (neg_ℤ (pos (radius w))) (words message (length v)))
    (sym (length-times integers (neg_ℤ (pos (radius w))) (words message (length v)) ∙ length-words message (length v)))

pub offset_is : (n w : ℕ) (v : List ℤ) (message : List ℕ) → length v ≡ n → offset w v message ≡ plus integers v (times integers (neg_ℤ (pos (radius w))) (words message n))
unfolding offset
offset_is n w v message l = ap (λ (m : ℕ). plus integers v (times integers (neg_ℤ (pos (radius w))) (words message m))) l

pub offset_alike : (m w : ℕ) (u v : List ℤ) (message : List ℕ) → Alike m u v → Alike m (offset w u message) (offset w v message)
offset_alike m w u v message a =
    let t : List ℤ = times integers (neg_ℤ (pos (radius w))) (words message (length u)) in
    subst (λ (x : List ℤ). Alike m x (offset w v message)) (sym (offset_is (length u) w u message refl))
    (subst (λ (x : List ℤ). Alike m (plus integers u t) x) (sym (offset_is (length u) w v message (sym a.long)))
    (alike_plus m u v t t (sym (length-times integers (neg_ℤ (pos (radius w))) (words message (length u)) ∙ length-words message (length u))) a (alike_refl m t)))

-- the distance of an octet from its word is by the offset alone
pub distance-offset : (w : ℕ) (v : List ℤ) (message : List ℕ) (i : ℕ) → i < length v / 8 → distance w (octet v i) (number message i) ≡ folded_squares (radius w) (octet (offset w v message) i)
unfolding distance offset
distance-offset w v message i h =
    ap (folded_squares (radius w)) (differences-plus (radius w) (octet v i) (word (number message i))
    ∙ sym (octet-plus v (times integers (neg_ℤ (pos (radius w))) (words message (length v))) i (sym (length-times integers (neg_ℤ (pos (radius w))) (words message (length v)) ∙ length-words message (length v)))
    ∙ ap (plus integers (octet v i)) (octet-times (neg_ℤ (pos (radius w))) (words message (length v)) i ∙ ap (times integers (neg_ℤ (pos (radius w)))) (octet-words message (length v) i h))))

pub offset-below : (w : ℕ) (v : List ℤ) (message : List ℕ) (b : ℕ) → farthest w v message ≤ b → (i : ℕ) → i < length v / 8 → folded_squares (radius w) (octet (offset w v message) i) ≤ b
offset-below w v message b h i l = omega (arith, distance-offset w v message i l, farthest-above w v message i l)

pub below-offset : (w : ℕ) (v : List ℤ) (message : List ℕ) (b : ℕ) → ((i : ℕ) → i < length v / 8 → folded_squares (radius w) (octet (offset w v message) i) ≤ b) → farthest w v message ≤ b
below-offset w v message b h = farthest-below w v message b (λ i l. omega (arith, distance-offset w v message i l, h i l))

-- ---- folds of rows that agree
squares_alike : (r : ℕ) (x y : List ℤ) → 0 < r → Alike (r + r) x y → folded_squares r x ≡ folded_squares r y
squares_alike r [] [] h s = refl
squares_alike r [] (b ∷ y) h s = absurd (omega (arith, s.long))
squares_alike r (a ∷ x) [] h s = absurd (omega (arith, s.long))
squares_alike r (a ∷ x) (b ∷ y) h s =
    ap₂ (λ (z : ℤ) (n : ℕ). nat_abs z * nat_abs z + n) (fold_cong r a b h (s.each 0 (omega arith)))
    (squares_alike r x y h (record { long = omega (arith, s.long); each = λ i l. s.each (suc i) (omega arith) }))

pub octet-squares_alike : (w : ℕ) (x y : List ℤ) (i : ℕ) → 0 < w → Alike (2 ^ w) x y → folded_squares (radius w) (octet x i) ≡ folded_squares (radius w) (octet y i)
octet-squares_alike w x y i h s =
    squares_alike (radius w) (octet x i) (octet y i) (radius-pos w) (octet_alike (radius w + radius w) x y i (subst (λ (m : ℕ). Alike m x y) (sym (radius_twice w h)) s))

-- ---- sums of offsets
plus-sums : (xs ys : List ℤ) → plus integers xs ys ≡ sums xs ys
unfolding plus
plus-sums [] ys = refl
plus-sums (x ∷ xs) [] = refl
plus-sums (x ∷ xs) (y ∷ ys) = ap {B = List ℤ} (λ zs. (x +ℤ y) ∷ zs) (plus-sums xs ys)

-- the length law, in an octet
pub octet-triangle : (r L M : ℕ) (x y : List ℤ) (i : ℕ) → 0 < r → length x ≡ length y → folded_squares r (octet x i) ≤ L * L → folded_squares r (octet y i) ≤ M * M → folded_squares r (octet (plus integers x y) i) ≤ (L + M) * (L + M)
octet-triangle r L M x y i h l hx hy =
    subst (λ (zs : List ℤ). folded_squares r zs ≤ (L + M) * (L + M)) (sym (octet-plus x y i l ∙ plus-sums (octet x i) (octet y i)))
    (folds_triangle r L M (octet x i) (octet y i) h hx hy)
