-- Rows whose numbers agree modulo 2 ^ w have the same distances, nearest words, decoded bytes and farthest octet.
use Rattle.std.proofs.Common.{◌≡◌, ℕ, suc, ◌+◌, ◌*◌, ◌/◌, ◌^◌, ◌<◌, List, [], ◌∷◌, map, length, get_or, ℤ, pos, ◌-ℤ◌, nat_abs, sym, refl, ap, ◌∙◌, subst, ap₂, inl, inr, arith}
use Rattle.std.specs.List.{range_with_len}
use Rattle.std.proofs.lemmas.List.{get_or_past}
use Rattle.std.proofs.lemmas.Bool.{cases_lt}
use Rattle.code.specs.Widths.{radius}
use Rattle.code.specs.Folds.{Same}
use Rattle.code.specs.Words.{word}
use Rattle.code.specs.Distances.{distance, nearest}
use Rattle.code.specs.Messages.{number}
use Rattle.code.specs.Rows.{Alike, octet, decoded_byte, decoded, greatest, farthest}
use Rattle.code.proofs.Multiples.{same_refl, same_sub}
use Rattle.code.proofs.FoldLaws.{radius-pos, radius_twice, fold_cong}
use Rattle.code.proofs.Bests.{first_least-same}
use Rattle.code.proofs.DistanceLaws.{gap, distance-gap}
use Rattle.code.proofs.RowLaws.{octet-at, octet-length}
use Rattle.code.proofs.Greatest.{greatest-same}

-- at every place, past the end too
pub alike_at : (n : ℕ) (u v : List ℤ) → Alike n u v → (i : ℕ) → Same n (get_or u i (pos 0)) (get_or v i (pos 0))
alike_at n u v a i =
    elim (cases_lt i (length u)) [
      | inl h ↦ a.each i h
      | inr h ↦ subst (λ (z : ℤ). Same n z (get_or v i (pos 0))) (sym (get_or_past u i (pos 0) h))
          (subst (λ (z : ℤ). Same n (pos 0) z) (sym (get_or_past v i (pos 0) (omega (arith, a.long)))) (same_refl n (pos 0)))
    ]

pub octet_alike : (n : ℕ) (u v : List ℤ) (i : ℕ) → Alike n u v → Alike n (octet u i) (octet v i)
octet_alike n u v i a = record {
  long = octet-length u i ∙ sym (octet-length v i);
  each = λ j h.
      let l : j < 8 = omega (arith, octet-length u i) in
      subst (λ (z : ℤ). Same n z (get_or (octet v i) j (pos 0))) (sym (octet-at u i j l))
      (subst (λ (z : ℤ). Same n (get_or u (8 * i + j) (pos 0)) z) (sym (octet-at v i j l)) (alike_at n u v a (8 * i + j)));
}

gap_alike : (r : ℕ) (u v : List ℤ) (bs : List ℕ) → 0 < r → length u ≡ length v → ((i : ℕ) → i < length u → Same (r + r) (get_or u i (pos 0)) (get_or v i (pos 0))) → gap r u bs ≡ gap r v bs
gap_alike r [] [] bs h l e = refl
gap_alike r [] (y ∷ v) bs h l e = absurd (omega arith)
gap_alike r (x ∷ u) [] bs h l e = absurd (omega arith)
gap_alike r (x ∷ u) (y ∷ v) [] h l e = refl
gap_alike r (x ∷ u) (y ∷ v) (b ∷ bs) h l e =
    ap₂ (λ (f : ℤ) (s : ℕ). nat_abs f * nat_abs f + s)
    (fold_cong r (x -ℤ pos (r * b)) (y -ℤ pos (r * b)) h (same_sub (r + r) x y (pos (r * b)) (pos (r * b)) (e 0 (omega arith)) (same_refl (r + r) (pos (r * b)))))
    (gap_alike r u v bs h (omega arith) (λ i m. e (suc i) (omega arith)))

pub distance_same : (w : ℕ) (u v : List ℤ) (k : ℕ) → 0 < w → Alike (2 ^ w) u v → distance w u k ≡ distance w v k
distance_same w u v k h a =
    distance-gap w u k
    ∙ gap_alike (radius w) u v (word k) (radius-pos w) a.long (λ i l. subst (λ (n : ℕ). Same n (get_or u i (pos 0)) (get_or v i (pos 0))) (sym (radius_twice w h)) (a.each i l))
    ∙ sym (distance-gap w v k)

pub nearest_same : (w : ℕ) (u v : List ℤ) → 0 < w → Alike (2 ^ w) u v → nearest w u ≡ nearest w v
unfolding nearest
nearest_same w u v h a = first_least-same (distance w u) (distance w v) 15 (λ j l. distance_same w u v j h a)

map_same : (f g : ℕ → ℕ) (xs : List ℕ) → ((j : ℕ) → f j ≡ g j) → map f xs ≡ map g xs
map_same f g [] e = refl
map_same f g (x ∷ xs) e = ap₂ (λ (a : ℕ) (l : List ℕ). a ∷ l) (e x) (map_same f g xs e)

pub decoded_same : (w : ℕ) (u v : List ℤ) (n : ℕ) → 0 < w → Alike (2 ^ w) u v → decoded w u n ≡ decoded w v n
unfolding decoded
decoded_same w u v n h a = map_same (decoded_byte w u) (decoded_byte w v) (range_with_len 0 n) (λ j. ap₂ (λ (x y : ℕ). x + 16 * y) (at (2 * j)) (at (2 * j + 1)))
  where
    at : (i : ℕ) → nearest w (octet u i) ≡ nearest w (octet v i)
    at i = nearest_same w (octet u i) (octet v i) h (octet_alike (2 ^ w) u v i a)

pub farthest_same : (w : ℕ) (u v : List ℤ) (message : List ℕ) → 0 < w → Alike (2 ^ w) u v → farthest w u message ≡ farthest w v message
unfolding farthest
farthest_same w u v message h a =
    greatest-same (λ i. distance w (octet u i) (number message i)) (λ i. distance w (octet v i) (number message i)) (length u / 8)
    (λ i. distance_same w (octet u i) (octet v i) (number message i) h (octet_alike (2 ^ w) u v i a))
    ∙ ap (λ (l : ℕ). greatest (λ i. distance w (octet v i) (number message i)) (l / 8)) a.long
