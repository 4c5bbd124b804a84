-- Inverses of f: there is one at most, and none where f divides zero.
use Rattle.std.proofs.Common.{◌≡◌, ℕ, List, [], ◌∷◌, length, ℤ, sym, refl, ap, ◌∙◌, arith}
use lib.ListN.{get_or-eq_default}
use Rattle.std.proofs.lemmas.List.{length-map}
use Rattle.ring.specs.Engines.{residues, numbers, product_to}
use Rattle.ring.specs.Residues.{reduced}
use Rattle.ring.specs.Rows.{product, plus, times, turn, bump, zeros, unit}
use Rattle.wrapping.specs.Secrets.{secret, reduced_row}
use Rattle.inversion.specs.Leading.{F, field}
use Rattle.inversion.specs.Places.{Below}
use Rattle.inversion.proofs.Units.{inverse_unique, no_divisor}
use Rattle.keying.specs.Keying.{Inverts, Uninvertible}
use Rattle.keying.proofs.Residual.{numbers-residues, numbers-same}
use Rattle.worked_cases.specs.Sparse.{numbers_at}
use Rattle.worked_cases.specs.Table.{vanishing}

-- f as residues
abbrev row_of : List ℤ → List F
row_of f = residues 3456 (reduced_row 3457 (secret f))

-- its product with an inverse, as residues
unit_of : (f : List ℤ) (u : List ℕ) → Inverts 16 f u → product field 16 (residues 3456 u) (row_of f) ≡ unit field 16
unfolding product_to
unit_of f u i = numbers-same 3456 (product field 16 (residues 3456 u) (row_of f)) (unit field 16) i.one

long : (u : List ℕ) → length u ≡ 16 → length (residues 3456 u) ≡ 16
long u l = length-map u (reduced 3456) ∙ l

pub only-inverse : (f : List ℤ) (u v : List ℕ) → length (reduced_row 3457 (secret f)) ≡ 16 → Inverts 16 f u → Inverts 16 f v → u ≡ v
only-inverse f u v l i j =
    sym (numbers-residues 3456 u i.residues)
    ∙ ap numbers (inverse_unique field 16 (omega arith) (row_of f) (residues 3456 u) (residues 3456 v) (long _ l) (long u i.long) (long v j.long) (unit_of f u i) (unit_of f v j))
    ∙ numbers-residues 3456 v j.residues

-- x^16 - x^8 + 1 divided by x^4 - 460
abbrev divisor : List ℕ
divisor = numbers_at ((0, 248) ∷ (4, 722) ∷ (8, 460) ∷ (12, 1) ∷ [])

vanishes : product field 16 (residues 3456 divisor) (row_of vanishing) ≡ zeros field 16
unfolding product plus times turn bump secret
vanishes = numbers-same 3456 (product field 16 (residues 3456 divisor) (row_of vanishing)) (zeros field 16) refl

secret-long : length (reduced_row 3457 (secret vanishing)) ≡ 16
unfolding secret
secret-long = refl

pub no_key : Uninvertible 16 vanishing
no_key u i =
    no_divisor field 16 (omega arith) (row_of vanishing) (residues 3456 divisor) (residues 3456 u) 12 (long _ secret-long) past
    (λ e. let z : ◌≡◌ {A = ℕ} 1 0 = ap (λ (x : F). x.value) e in omega arith)
    vanishes (unit_of vanishing u i)
  where
    past : Below field 16 (residues 3456 divisor)
    past k h = get_or-eq_default (residues 3456 divisor) (reduced 3456 0) h
