-- Rows whose numbers are all below a limit, read from an index on.
use Rattle.std.proofs.Common.{◌≡◌, ℕ, zero, suc, ◌+◌, ◌<◌, ◌≤◌, true, false, ◌&&◌, ltb, List, [], ◌∷◌, length, get_or, drop, ap, ◌∙◌, arith}
use Rattle.std.proofs.lemmas.List.{drop_more}
use Rattle.std.proofs.lemmas.Bool.{lt-ltb, le-ltb, ltb-true, and_parts, and_from}
use Rattle.ring.specs.Engines.{all_below}

pub below_stops : (m : ℕ) (xs : List ℕ) (i : ℕ) → i < length xs → m ≤ get_or xs i 0 → all_below m (drop i xs) ≡ false
below_stops m xs i within high = ap (all_below m) (drop_more xs i 0 within) ∙ ap (λ t. t && all_below m (drop (i + 1) xs)) (le-ltb _ _ high)

pub below_goes : (m : ℕ) (xs : List ℕ) (i : ℕ) → i < length xs → get_or xs i 0 < m → all_below m (drop i xs) ≡ all_below m (drop (i + 1) xs)
below_goes m xs i within low = ap (all_below m) (drop_more xs i 0 within) ∙ ap (λ t. t && all_below m (drop (i + 1) xs)) (lt-ltb _ _ low)

-- the number at an index
pub below_at : (m : ℕ) (xs : List ℕ) (i : ℕ) → all_below m xs ≡ true → i < length xs → get_or xs i 0 < m
below_at m [] i h within = absurd (omega arith)
below_at m (x ∷ xs) zero h within = ltb-true _ _ (and_parts _ _ h).0
below_at m (x ∷ xs) (suc i) h within = below_at m xs i (and_parts _ _ h).1 (omega arith)

-- a higher limit
pub below_higher : (m k : ℕ) (xs : List ℕ) → m ≤ k → all_below m xs ≡ true → all_below k xs ≡ true
below_higher m k [] higher h = h
below_higher m k (x ∷ xs) higher h =
    let parts = and_parts (ltb x m) (all_below m xs) h in
    and_from _ _ (lt-ltb x k (omega (arith, ltb-true x m parts.0))) (below_higher m k xs higher parts.1)
