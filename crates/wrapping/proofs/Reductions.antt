-- Rows reduced modulo m agree with what they came from.
use Rattle.std.proofs.Common.{◌≡◌, ℕ, ◌+◌, ◌/◌, ◌%◌, ◌<◌, true, ltb, List, [], ◌∷◌, length, get_or, ℤ, pos, negsuc, sym, refl, ap, ◌∙◌, subst, ap₂, mod-lt, mod-eq_of_lt, arith}
use native.Mathlib.Nat.{div-add-mod, mod-mod}
use Rattle.std.proofs.lemmas.List.{length-map, get_or-map}
use Rattle.std.proofs.lemmas.Int.{ints}
use Rattle.std.proofs.lemmas.Bool.{and_parts, ltb-true}
use Rattle.ring.specs.Engines.{all_below}
use Rattle.ring.specs.Wholes.{residue}
use Rattle.code.specs.Folds.{Same}
use Rattle.code.specs.Rows.{Alike, whole}
use Rattle.code.proofs.Multiples.{same-sym, same_trans, same_mod}
use Rattle.code.proofs.RowLaws.{whole-at}
use Rattle.wrapping.specs.Secrets.{reduced_row}

-- ---- numbers
pub same-residue : (m : ℕ) (z : ℤ) → 0 < m → Same m (pos (residue m z)) z
same-residue m (pos a) h = record { here = a / m; there = 0; tie = omega (arith, ints, div-add-mod a m) }
same-residue m (negsuc a) h =
    let low : a % m < m = mod-lt a h in
    record { here = 0; there = a / m + 1; tie = omega (arith, ints, div-add-mod a m) }

pub same-residues : (m : ℕ) (a b : ℤ) → 0 < m → residue m a ≡ residue m b → Same m a b
same-residues m a b h e =
    same_trans m a (pos (residue m a)) b (same-sym m (pos (residue m a)) a (same-residue m a h))
    (subst (λ (k : ℕ). Same m (pos k) b) (sym e) (same-residue m b h))

pub same-remainder : (m a : ℕ) → Same m (pos (a % m)) (pos a)
same-remainder m a = same_mod m (a % m) a (mod-mod a m)

-- ---- rows
pub length_whole : (row : List ℕ) → length (whole row) ≡ length row
length_whole row = length-map row pos

pub alike_reduced : (m : ℕ) (a : List ℤ) → 0 < m → Alike m (whole (reduced_row m a)) a
alike_reduced m a h = record {
  long = length_whole (reduced_row m a) ∙ length-map a (residue m);
  each = λ i l.
      let k : i < length a = omega (arith, length_whole (reduced_row m a), length-map a (residue m)) in
      rw (whole-at (reduced_row m a) i, get_or-map (residue m) a i (pos 0) 0 k) (same-residue m (get_or a i (pos 0)) h);
}

-- rows with equal residues agree
pub alike_residues : (m : ℕ) (a b : List ℤ) → 0 < m → reduced_row m a ≡ reduced_row m b → Alike m a b
alike_residues m a b h e =
    let l : length a ≡ length b = sym (length-map a (residue m)) ∙ ap length e ∙ length-map b (residue m) in
    record {
      long = l;
      each = λ i k.
          let j : i < length b = omega arith in
          same-residues m (get_or a i (pos 0)) (get_or b i (pos 0)) h
          (sym (get_or-map (residue m) a i (pos 0) 0 k) ∙ ap (λ (row : List ℕ). get_or row i 0) e ∙ get_or-map (residue m) b i (pos 0) 0 j);
    }

-- a row of residues is its own reduction
pub reduced-below : (m : ℕ) (row : List ℕ) → all_below m row ≡ true → reduced_row m (whole row) ≡ row
reduced-below m [] t = refl
reduced-below m (x ∷ row) t =
    let p : (ltb x m ≡ true) × (all_below m row ≡ true) = and_parts (ltb x m) (all_below m row) t in
    ap₂ {C = List ℕ} ◌∷◌ (mod-eq_of_lt (ltb-true x m p.0)) (reduced-below m row p.1)
