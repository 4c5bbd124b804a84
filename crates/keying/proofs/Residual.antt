-- Residues as numbers and back.
use Rattle.std.proofs.Common.{◌≡◌, ℕ, ◌+◌, true, ltb, List, [], ◌∷◌, sym, refl, ap, ◌∙◌, ap₂, mod-eq_of_lt}
use Rattle.std.proofs.lemmas.Bool.{and_from, and_parts, lt-ltb, ltb-true}
use Rattle.ring.specs.Engines.{all_below, residues, numbers}
use Rattle.ring.specs.Residues.{fixed, small}
use Rattle.ring.specs.declared.residue.Residue.{Residue}

pub residues-numbers : (last : ℕ) (xs : List (Residue last)) → residues last (numbers xs) ≡ xs
residues-numbers last [] = refl
residues-numbers last (x ∷ xs) = ap₂ {C = List (Residue last)} ◌∷◌ (fixed last x x.value refl) (residues-numbers last xs)

pub numbers-residues : (last : ℕ) (xs : List ℕ) → all_below (last + 1) xs ≡ true → numbers (residues last xs) ≡ xs
numbers-residues last [] t = refl
numbers-residues last (x ∷ xs) t =
    let p = and_parts (ltb x (last + 1)) (all_below (last + 1) xs) t in
    ap₂ {C = List ℕ} ◌∷◌ (mod-eq_of_lt (ltb-true x (last + 1) p.0)) (numbers-residues last xs p.1)

pub numbers-below : (last : ℕ) (xs : List (Residue last)) → all_below (last + 1) (numbers xs) ≡ true
numbers-below last [] = refl
numbers-below last (x ∷ xs) = and_from (ltb x.value (last + 1)) (all_below (last + 1) (numbers xs)) (lt-ltb _ _ (small last x)) (numbers-below last xs)

-- rows of residues with the same numbers are the same
pub numbers-same : (last : ℕ) (xs ys : List (Residue last)) → numbers xs ≡ numbers ys → xs ≡ ys
numbers-same last xs ys e = sym (residues-numbers last xs) ∙ ap (residues last) e ∙ residues-numbers last ys
