-- Products that are computed.
use Rattle.std.proofs.Common.{◌≡◌, [], ◌∷◌, pos, refl}
use Rattle.ring.specs.Engines.{product_mod, product_to}
use Rattle.ring.specs.Rows.{product, plus, times, turn, bump, unit}
use Rattle.wrapping.specs.Secrets.{secret, reduced_row}
use Rattle.keying.specs.Keying.{Inverts}
use Rattle.worked_cases.specs.Sparse.{numbers_at, wholes_at}
use Rattle.worked_cases.specs.Table.{one, third, sixes}

pub middle_squared : product_mod 3457 16 (numbers_at ((8, 1) ∷ [])) (numbers_at ((8, 1) ∷ [])) ≡ numbers_at ((0, 3456) ∷ (8, 1) ∷ [])
unfolding product_to product plus times turn bump
middle_squared = refl

pub top_squared : product_mod 3457 16 (numbers_at ((15, 1) ∷ [])) (numbers_at ((15, 1) ∷ [])) ≡ numbers_at ((6, 3456) ∷ [])
unfolding product_to product plus times turn bump
top_squared = refl

pub thrice : secret one ≡ wholes_at ((0, pos 3) ∷ [])
unfolding secret
thrice = refl

pub third-inverts : Inverts 16 one third
unfolding product_to product plus times turn bump unit secret
third-inverts = record { long = refl; residues = refl; one = refl }

pub third_is : product_mod 3457 16 (reduced_row 3457 one) third ≡ third
unfolding product_to product plus times turn bump
third_is = refl

-- where f' is 0, f is 1 and its own inverse
pub one-inverts : Inverts 16 (wholes_at []) (numbers_at ((0, 1) ∷ []))
unfolding product_to product plus times turn bump unit secret
one-inverts = record { long = refl; residues = refl; one = refl }

pub six_is : product_mod 3457 16 (reduced_row 3457 sixes) (numbers_at ((0, 1) ∷ [])) ≡ reduced_row 3457 sixes
unfolding product_to product plus times turn bump
six_is = refl
