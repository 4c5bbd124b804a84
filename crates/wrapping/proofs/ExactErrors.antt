-- The exact error of a wrapping: it is whole, it is one, and it agrees with the rounded row times f modulo 2^w.
use Rattle.std.proofs.Common.{◌≡◌, ℕ, ◌*◌, ◌^◌, ◌<◌, List, [], ◌∷◌, map, length, get_or, ℤ, pos, ◌-ℤ◌, ◌*ℤ◌, neg_ℤ, sym, refl, ap, ◌∙◌, subst, ap₂, arith}
use Rattle.std.proofs.lemmas.List.{length-map, ext_get_or}
use Rattle.std.proofs.lemmas.Int.{ints}
use Rattle.ring.specs.Rows.{plus, times, product}
use Rattle.ring.specs.Integers.{integers}
use Rattle.ring.specs.Engines.{product_mod}
use Rattle.ring.proofs.RowLaws.{length-plus, length-times}
use Rattle.ring.proofs.Turns.{slice_index_or-times}
use Rattle.ring.proofs.Products.{length-product, product-comm, product-assoc, plus-product, times-product}
use Rattle.ring.proofs.WholeProducts.{whole_products}
use Rattle.code.specs.Rows.{Alike, whole}
use Rattle.wrapping.specs.Secrets.{secret, reduced_row, Tied}
use Rattle.wrapping.specs.Wraps.{sigma, rounded}
use Rattle.wrapping.specs.Exact.{rounding, Exact}
use Rattle.wrapping.proofs.Spreads.{spread}
use Rattle.wrapping.proofs.Alikes.{alike_sym, alike_trans, alike_multiple, alike_product, gap_row}
use Rattle.wrapping.proofs.Reductions.{length_whole, alike_reduced, alike_residues, reduced-below}
use Rattle.wrapping.proofs.SecretLaws.{length-secret}

pub length-sigma : (n : ℕ) (h : List ℕ) (r : List ℤ) → 0 < n → length r ≡ n → length (sigma n h r) ≡ n
unfolding sigma
length-sigma n h r some l = length-map (product integers n (whole h) r) _ ∙ length-product integers n some (whole h) r l

-- the rounded row, as whole numbers
abbrev pub rounded_row : ℕ → List ℕ → List ℤ
rounded_row w row = whole (map (rounded w) row)

pub length-rounded : (w : ℕ) (row : List ℕ) → length (rounded_row w row) ≡ length row
length-rounded w row = length_whole (map (rounded w) row) ∙ length-map row (rounded w)

-- rho = q u - p s, row by row
difference_row : (p q : ℕ) (u : ℕ → ℕ) (row : List ℕ) → map (λ (s : ℕ). pos (q * u s) -ℤ pos (p * s)) row ≡ plus integers (times integers (pos q) (whole (map u row))) (times integers (neg_ℤ (pos p)) (whole row))
unfolding plus times
difference_row p q u [] = refl
difference_row p q u (s ∷ row) = ap₂ {C = List ℤ} ◌∷◌ (simp spread (omega (arith, ints))) (difference_row p q u row)

-- q (U + p k) = p (S + q k) + (q U - p S)
balance : (p q : ℤ) (U S k : List ℤ) → length U ≡ length S → length S ≡ length k → times integers q (plus integers U (times integers p k)) ≡ plus integers (times integers p (plus integers S (times integers q k))) (plus integers (times integers q U) (times integers (neg_ℤ p) S))
unfolding plus times
balance p q [] [] k l m = refl
balance p q [] (s ∷ S) k l m = absurd (omega arith)
balance p q (u ∷ U) [] k l m = absurd (omega arith)
balance p q (u ∷ U) (s ∷ S) [] l m = absurd (omega arith)
balance p q (u ∷ U) (s ∷ S) (x ∷ k) l m = ap₂ {C = List ℤ} ◌∷◌ (simp spread (omega (arith, ints))) (balance p q U S k (omega arith) (omega arith))

-- rows whose multiples by 3457 are equal are equal
times_cancel : (d e : List ℤ) → length d ≡ length e → times integers (pos 3457) d ≡ times integers (pos 3457) e → d ≡ e
times_cancel d e l t =
    ext_get_or (pos 0) d e l (λ i h. cancel (get_or d i (pos 0)) (get_or e i (pos 0))
    (sym (slice_index_or-times integers (pos 3457) d i) ∙ ap (λ (row : List ℤ). get_or row i (pos 0)) t ∙ slice_index_or-times integers (pos 3457) e i))
  where
    cancel : (x y : ℤ) → pos 3457 *ℤ x ≡ pos 3457 *ℤ y → x ≡ y
    cancel x y e = omega (arith, ints)

pub exact_one : (n w : ℕ) (f g : List ℤ) (h : List ℕ) (r d e : List ℤ) → Exact n w f g h r d → Exact n w f g h r e → d ≡ e
exact_one n w f g h r d e a b = times_cancel d e (a.long ∙ sym b.long) (a.whole ∙ sym b.whole)

-- an exact error that agrees with the rounded row times f
pub record Found (n w : ℕ) (f' g : List ℤ) (h : List ℕ) (r : List ℤ) : Type 0 where
  pub error : List ℤ
  pub exact : Exact n w f' g h r error
  pub agrees : Alike (2 ^ w) error (product integers n (rounded_row w (sigma n h r)) (secret f'))

module _ (n w : ℕ) (f' g : List ℤ) (h : List ℕ) (r : List ℤ) (t : Tied n f' g h) (lr : length r ≡ n) where
  abbrev f : List ℤ
  f = secret f'

  infixl 20 ◌·◌
  abbrev ◌·◌ : List ℤ → List ℤ → List ℤ
  a · b = product integers n a b

  lf : length f ≡ n
  lf = length-secret f' ∙ t.f_long

  lh : length (whole h) ≡ n
  lh = length_whole h ∙ t.h_long

  -- h f agrees with g
  h_f : Alike 3457 (whole h · f) g
  h_f =
      alike_residues 3457 (whole h · f) g (omega arith)
      (sym (whole_products 3456 n (whole h) f) ∙ ap (λ (row : List ℕ). product_mod 3457 n row (reduced_row 3457 f)) (reduced-below 3457 h t.h_below) ∙ t.tie)

  -- sigma f agrees with g r
  sigma-f : Alike 3457 (whole (sigma n h r) · f) (g · r)
  unfolding sigma
  sigma-f =
      alike_trans 3457 _ ((whole h · r) · f) _
      (alike_product 3457 n _ (whole h · r) f t.some (length-product integers n t.some (whole h) r lr) lf (alike_reduced 3457 (whole h · r) (omega arith)))
      (subst (λ (row : List ℤ). Alike 3457 row (g · r)) (sym turned) (alike_product 3457 n (whole h · f) g r t.some t.g_long lr h_f))
    where
      turned : (whole h · r) · f ≡ (whole h · f) · r
      turned =
          product-assoc integers n t.some (whole h) r f lh lr lf
          ∙ ap (λ (row : List ℤ). whole h · row) (product-comm integers n t.some r f lr lf)
          ∙ sym (product-assoc integers n t.some (whole h) f r lh lf lr)

  abbrev u : List ℤ
  u = rounded_row w (sigma n h r)

  abbrev σ : List ℤ
  σ = whole (sigma n h r)

  ls : length σ ≡ n
  ls = length_whole (sigma n h r) ∙ length-sigma n h r t.some lr

  lu : length u ≡ n
  lu = length-rounded w (sigma n h r) ∙ length-sigma n h r t.some lr

  -- rho f = 3457 u f - 2^w sigma f
  rho_f : map (rounding w) (sigma n h r) · f ≡ plus integers (times integers (pos 3457) (u · f)) (times integers (neg_ℤ (pos (2 ^ w))) (σ · f))
  rho_f =
      ap (λ (row : List ℤ). row · f) (difference_row (2 ^ w) 3457 (rounded w) (sigma n h r))
      ∙ plus-product integers n t.some (times integers (pos 3457) u) (times integers (neg_ℤ (pos (2 ^ w))) σ) f (length-times integers (pos 3457) u ∙ lu) (length-times integers (neg_ℤ (pos (2 ^ w))) σ ∙ ls) lf
      ∙ ap₂ (plus integers) (times-product integers n t.some (pos 3457) u f lu lf) (times-product integers n t.some (neg_ℤ (pos (2 ^ w))) σ f ls lf)

  pub found : Found n w f' g h r
  found =
      let gap = gap_row 3457 (g · r) (σ · f) (alike_sym 3457 (σ · f) (g · r) sigma-f) in
      let k : List ℤ = gap.0 in
      let p : ℤ = pos (2 ^ w) in
      let lk : length k ≡ n = gap.1 ∙ length-product integers n t.some g r lr in
      let lU : length (u · f) ≡ n = length-product integers n t.some u f lf in
      let lS : length (σ · f) ≡ n = length-product integers n t.some σ f lf in
      record {
        error = plus integers (u · f) (times integers p k);
        exact = record {
          long = length-plus integers (u · f) (times integers p k) (lU ∙ sym (length-times integers p k ∙ lk)) ∙ lU;
          whole = balance p (pos 3457) (u · f) (σ · f) k (lU ∙ sym lS) (lS ∙ sym lk) ∙ ap₂ (plus integers) (ap (times integers p) (sym gap.2)) (sym rho_f);
        };
        agrees = alike_multiple (2 ^ w) (u · f) k (lk ∙ sym lU);
      }

  pub exact_whole : (e : List ℤ) × Exact n w f' g h r e
  exact_whole = (found.error, found.exact)

  -- every exact error agrees with the rounded row times f modulo 2^w
  pub exact_agrees : (e : List ℤ) → Exact n w f' g h r e → Alike (2 ^ w) e (u · f)
  exact_agrees e x = subst (λ (row : List ℤ). Alike (2 ^ w) row (u · f)) (exact_one n w f' g h r found.error e found.exact x) found.agrees
