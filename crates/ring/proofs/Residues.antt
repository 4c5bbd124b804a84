-- The image of a number among the residues is its residue.
use Rattle.std.proofs.Common.{◌≡◌, ℕ, zero, suc, ◌+◌, ◌%◌, refl, ap, ◌∙◌, add-one}
use Rattle.ring.specs.Images.{count}
use Rattle.ring.specs.Modular.{modular}
use Rattle.ring.specs.Residues.{reduced, residue_ring, same}

pub count-reduced : (last n : ℕ) → count (residue_ring last) n ≡ reduced last n
unfolding count
count-reduced last zero = refl
count-reduced last (suc n) =
    ap (λ w. (residue_ring last).add w (reduced last 1)) (count-reduced last n)
    ∙ same last _ _ (simp modular (ap (λ w. w % (last + 1)) (add-one n)))
