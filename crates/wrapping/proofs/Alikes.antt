-- Rows of whole numbers that agree modulo m: sums, multiples and products keep it.
use Rattle.std.proofs.Common.{◌≡◌, ℕ, zero, suc, ◌<◌, List, [], ◌∷◌, length, get_or, ℤ, pos, negsuc, ◌+ℤ◌, ◌-ℤ◌, ◌*ℤ◌, sym, refl, ap, ◌∙◌, subst, ap₂, arith}
use Rattle.std.proofs.lemmas.Int.{ints}
use Rattle.ring.specs.Rows.{plus, times, product}
use Rattle.ring.specs.Integers.{integers}
use Rattle.ring.proofs.RowLaws.{length-plus, length-times}
use Rattle.ring.proofs.Turns.{slice_index_or-plus, slice_index_or-times}
use Rattle.ring.proofs.Products.{length-product, plus-product, times-product}
use Rattle.code.specs.Folds.{Same}
use Rattle.code.specs.Rows.{Alike}
use Rattle.code.proofs.Multiples.{same_refl, same-sym, same_trans, same_add}
use Rattle.code.proofs.Agreement.{alike_at}
use Rattle.wrapping.proofs.Spreads.{spread}

-- ---- numbers
pub same_by : (m : ℕ) {a b c d : ℤ} → a ≡ c → b ≡ d → Same m c d → Same m a b
same_by m {a} {b} {c} {d} p q s = subst (λ (z : ℤ). Same m z b) (sym p) (subst (λ (z : ℤ). Same m c z) (sym q) s)

-- b with a multiple of m is the same as b
pub same_multiple : (m : ℕ) (b z : ℤ) → Same m (b +ℤ pos m *ℤ z) b
same_multiple m b (pos k) = record { here = 0; there = k; tie = omega (arith, ints) }
same_multiple m b (negsuc k) = record { here = suc k; there = 0; tie = omega (arith, ints) }

-- what is between two numbers, as a multiple of m
pub between : (m : ℕ) (a b : ℤ) → Same m a b → (z : ℤ) × (a ≡ b +ℤ pos m *ℤ z)
between m a b s = (pos s.there -ℤ pos s.here, simp spread (omega (arith, ints, s.tie)))

pub same-times : (m : ℕ) (k a b : ℤ) → Same m a b → Same m (k *ℤ a) (k *ℤ b)
same-times m k a b s =
    subst (λ (z : ℤ). Same m z (k *ℤ b)) (sym (whole (between m a b s).0 (between m a b s).1)) (same_multiple m (k *ℤ b) (k *ℤ (between m a b s).0))
  where
    whole : (z : ℤ) → a ≡ b +ℤ pos m *ℤ z → k *ℤ a ≡ k *ℤ b +ℤ pos m *ℤ (k *ℤ z)
    whole z e = ap (λ (y : ℤ). k *ℤ y) e ∙ simp spread

-- ---- rows
pub alike_by : (m : ℕ) {a b c d : List ℤ} → a ≡ c → b ≡ d → Alike m c d → Alike m a b
alike_by m {a} {b} {c} {d} p q s = subst (λ (z : List ℤ). Alike m z b) (sym p) (subst (λ (z : List ℤ). Alike m c z) (sym q) s)

pub alike_cons : (m : ℕ) (x y : ℤ) (a b : List ℤ) → Same m x y → Alike m a b → Alike m (x ∷ a) (y ∷ b)
alike_cons m x y a b s t = record { long = ap suc t.long; each = at }
  where
    at : (i : ℕ) → i < suc (length a) → Same m (get_or (x ∷ a) i (pos 0)) (get_or (y ∷ b) i (pos 0))
    at zero h = s
    at (suc i) h = t.each i (omega arith)

pub alike_refl : (m : ℕ) (a : List ℤ) → Alike m a a
alike_refl m a = record { long = refl; each = λ i h. same_refl m (get_or a i (pos 0)) }

pub alike_sym : (m : ℕ) (a b : List ℤ) → Alike m a b → Alike m b a
alike_sym m a b s = record { long = sym s.long; each = λ i h. same-sym m (get_or a i (pos 0)) (get_or b i (pos 0)) (alike_at m a b s i) }

pub alike_trans : (m : ℕ) (a b c : List ℤ) → Alike m a b → Alike m b c → Alike m a c
alike_trans m a b c s t = record {
  long = s.long ∙ t.long;
  each = λ i h. same_trans m (get_or a i (pos 0)) (get_or b i (pos 0)) (get_or c i (pos 0)) (alike_at m a b s i) (alike_at m b c t i);
}

pub alike_plus : (m : ℕ) (a b c d : List ℤ) → length a ≡ length c → Alike m a b → Alike m c d → Alike m (plus integers a c) (plus integers b d)
alike_plus m a b c d l s t =
    let k : length b ≡ length d = sym s.long ∙ l ∙ t.long in
    record {
      long = length-plus integers a c l ∙ s.long ∙ sym (length-plus integers b d k);
      each = λ i h. rw (slice_index_or-plus integers a c i l, slice_index_or-plus integers b d i k) (same_add m (get_or a i (pos 0)) (get_or b i (pos 0)) (get_or c i (pos 0)) (get_or d i (pos 0)) (alike_at m a b s i) (alike_at m c d t i));
    }

pub alike_times : (m : ℕ) (k : ℤ) (a b : List ℤ) → Alike m a b → Alike m (times integers k a) (times integers k b)
alike_times m k a b s = record {
  long = length-times integers k a ∙ s.long ∙ sym (length-times integers k b);
  each = λ i h. rw (slice_index_or-times integers k a i, slice_index_or-times integers k b i) (same-times m k (get_or a i (pos 0)) (get_or b i (pos 0)) (alike_at m a b s i));
}

-- what is between two rows that agree, as a multiple of m
pub gap_row : (m : ℕ) (a b : List ℤ) → Alike m a b → (k : List ℤ) × (length k ≡ length a) × (a ≡ plus integers b (times integers (pos m) k))
unfolding plus times
gap_row m [] [] s = ([], refl, refl)
gap_row m [] (y ∷ b) s = absurd (omega (arith, s.long))
gap_row m (x ∷ a) [] s = absurd (omega (arith, s.long))
gap_row m (x ∷ a) (y ∷ b) s =
    let rest = gap_row m a b (record { long = omega (arith, s.long); each = λ i h. s.each (suc i) (omega arith) }) in
    let first = between m x y (s.each 0 (omega arith)) in
    (first.0 ∷ rest.0, ap suc rest.1, ap₂ {C = List ℤ} ◌∷◌ first.1 rest.2)

-- a row with a multiple of m added agrees with it
pub alike_multiple : (m : ℕ) (b k : List ℤ) → length k ≡ length b → Alike m (plus integers b (times integers (pos m) k)) b
alike_multiple m b k l =
    let e : length b ≡ length (times integers (pos m) k) = sym (length-times integers (pos m) k ∙ l) in
    record {
      long = length-plus integers b (times integers (pos m) k) e;
      each = λ i h. rw (slice_index_or-plus integers b (times integers (pos m) k) i e, slice_index_or-times integers (pos m) k i) (same_multiple m (get_or b i (pos 0)) (get_or k i (pos 0)));
    }

pub alike_product : (m n : ℕ) (a b f : List ℤ) → 0 < n → length b ≡ n → length f ≡ n → Alike m a b → Alike m (product integers n a f) (product integers n b f)
alike_product m n a b f some lb lf s =
    let g = gap_row m a b s in
    let k : List ℤ = g.0 in
    let lk : length k ≡ n = g.1 ∙ s.long ∙ lb in
    let e : product integers n a f ≡ plus integers (product integers n b f) (times integers (pos m) (product integers n k f)) =
    ap (λ (c : List ℤ). product integers n c f) g.2
    ∙ plus-product integers n some b (times integers (pos m) k) f lb (length-times integers (pos m) k ∙ lk) lf
    ∙ ap (plus integers (product integers n b f)) (times-product integers n some (pos m) k f lk lf) in
    subst (λ (c : List ℤ). Alike m c (product integers n b f)) (sym e)
    (alike_multiple m (product integers n b f) (product integers n k f) (length-product integers n some k f lf ∙ sym (length-product integers n some b f lf)))
