-- Arrays that are made from a function of the index.
use Rattle.std.proofs.Common.{◌≡◌, ℕ, zero, suc, ◌+◌, ◌<◌, List, map, get_or, ap, ◌∙◌, subst, arith}
use Rattle.std.specs.Array.{IsFromFnResult, IsFromFnResultFrom}
use Rattle.std.specs.Fn.{Mut, Called}
use Rattle.std.specs.List.{range_with_len}
use Rattle.std.proofs.lemmas.List.FromFn.{fill_by_all}

module _ {F B : Type 0} (g : Mut F (ℕ × Unit {0}) B) (f : F) (h : ℕ → B) (d : B) (ys : List B) (m : ℕ)
    (step : (i : ℕ) (y : B) (f' : F) → i < m → Called g f (i, tt) y f' → (y ≡ h i) × (f' ≡ f)) where
  made_at : (i n k j : ℕ) → i + n ≡ m → i + k ≡ j → k < n → IsFromFnResultFrom g f ys i n → get_or ys j d ≡ h j
  made_at i zero k j e ej l r = absurd (omega arith)
  made_at i (suc n) zero j e ej l r =
      let s = step i r.1 r.0 (omega arith) r.3 in
      ap (λ k. get_or ys k d) (let same : j ≡ i = omega arith in same) ∙ r.2.1 d ∙ s.0 ∙ ap h (let same : i ≡ j = omega arith in same)
  made_at i (suc n) (suc k) j e ej l r =
      let s = step i r.1 r.0 (omega arith) r.3 in
      made_at (i + 1) n k j (omega arith) (omega arith) (omega arith) (subst (λ q. IsFromFnResultFrom g q ys (i + 1) n) s.1 r.4)

  -- from calls that leave the closure as it was
  pub made_same : IsFromFnResult g f ys m → ys ≡ map h (range_with_len 0 m)
  made_same r = fill_by_all h ys m d r.long (λ k l. made_at 0 m k k (omega arith) (omega arith) l r.each)
