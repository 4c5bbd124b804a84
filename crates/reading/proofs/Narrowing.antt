-- Coefficients read one after another.
use Rattle.std.proofs.Common.{◌≡◌, ℕ, ◌+◌, ◌<◌, ◌≤◌, List, [], ◌∷◌, ◌++◌, length, get_or, drop, Ok, Err, Result, sym, ◌∙◌}
use Rattle.std.proofs.lemmas.List.{at_drop_more, at_drop_all}
use Rattle.reading.specs.declared.fault.Unread.{Unread}
use Rattle.reading.specs.Rows.{each}
use Rattle.reading.specs.Steps.{then, seen}

module _ {X Y : Type 0} (read : X → Result Y Unread) where
  -- the next of those that are left
  pub each_more : (xs : List X) (i : ℕ) (d : X) → i < length xs
      → each read (drop i xs) ≡ then (read (get_or xs i d)) (λ y. then (each read (drop (i + 1) xs)) (λ ys. Ok (y ∷ ys)))
  unfolding each
  each_more xs i d less = at_drop_more (each read) xs i d less

  -- the first number that is none of that kind stops it
  pub each_stops : (xs : List X) (ys : List Y) (i : ℕ) (d : X) (e : Unread) → i < length xs
      → each read xs ≡ seen (λ rest. ys ++ rest) (each read (drop i xs)) → Err e ≡ read (get_or xs i d) → each read xs ≡ Err e
  each_stops xs ys i d e less inv stop = inv ∙ rw (each_more xs i d less, sym stop)

  pub each-done : (xs : List X) (i : ℕ) → length xs ≤ i → each read (drop i xs) ≡ Ok []
  unfolding each
  each-done xs i all = at_drop_all (each read) xs i all
