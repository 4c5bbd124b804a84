-- The search for the nearest word in two tries.
use Rattle.std.specs.Prelude.{◌≡◌, ℕ, ◌<◌, ◌≤◌, List, [], ◌∷◌, ℤ, ◌+ℤ◌, ◌-ℤ◌}
use Rattle.std.specs.Int.{int_wrap, w32}

-- Of the numbers below n, k is the first at which f is least, and d is that least.
pub record Best (f : ℕ → ℕ) (n k d : ℕ) : Type 0 where
  pub below : k < n
  pub value : d ≡ f k
  pub least : (j : ℕ) → j < n → d ≤ f j
  pub first : (j : ℕ) → j < k → d < f j

-- A list with g of each number at its odd places.
abbrev pub at_odd : (ℤ → ℤ) → List ℤ → List ℤ
at_odd g [] = []
at_odd g (x ∷ []) = x ∷ []
at_odd g (x ∷ y ∷ zs) = x ∷ g y ∷ at_odd g zs

-- s added at the odd places, in 32 bits.
abbrev pub raised : ℤ → List ℤ → List ℤ
raised s = at_odd (λ y. int_wrap w32 (y +ℤ s))

-- s taken away at the odd places, in 32 bits.
abbrev pub lowered : ℤ → List ℤ → List ℤ
lowered s = at_odd (λ y. int_wrap w32 (y -ℤ s))
