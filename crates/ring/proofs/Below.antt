use Rattle.std.proofs.Common.{◌≡◌, ℕ, suc, ◌+◌, ◌<◌, ◌≤◌, false, ◌&&◌, List, length, get_or, drop, sym, ap, ◌∙◌, add-one, drop-cons}
use Rattle.std.proofs.lemmas.Bool.{lt-ltb, le-ltb}
use Rattle.ring.specs.Engines.{all_below}

pub below_stops : (m : ℕ) (xs : List ℕ) (i : ℕ) → i < length xs → m ≤ get_or xs i 0 → all_below m (drop i xs) ≡ false
below_stops m xs i within high = ap (all_below m) (drop-cons xs i 0 within) ∙ ap (λ t. t && all_below m (drop (suc i) xs)) (le-ltb _ _ high)

pub below_goes : (m : ℕ) (xs : List ℕ) (i : ℕ) → i < length xs → get_or xs i 0 < m → all_below m (drop i xs) ≡ all_below m (drop (i + 1) xs)
below_goes m xs i within low =
    ap (all_below m) (drop-cons xs i 0 within) ∙ ap (λ t. t && all_below m (drop (suc i) xs)) (lt-ltb _ _ low) ∙ ap (λ k. all_below m (drop k xs)) (sym (add-one i))
