-- Where a row of coefficients is zero, and where its leading coefficient stands.
use Rattle.std.specs.Prelude.{◌≡◌, ℕ, suc, ◌≤◌, List, slice_index_or}
use Rattle.ring.specs.Ring.{CommRing}

module _ {C : Type 0} (R : CommRing C) where
  -- the coefficient at a place, which is zero past the end
  abbrev pub at : List C → ℕ → C
  at row i = slice_index_or row i R.zero

  -- every place from p on is zero
  abbrev pub Below : ℕ → List C → Type 0
  Below p row = (i : ℕ) → p ≤ i → at row i ≡ R.zero

  -- place p is the highest that is not zero
  pub record Leads (p : ℕ) (row : List C) : Type 0 where
    pub some : at row p ≡ R.zero → ⊥
    pub above : Below (suc p) row
