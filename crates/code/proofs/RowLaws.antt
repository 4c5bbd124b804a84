-- The octets of a row.
use Rattle.std.proofs.Common.{◌≡◌, ℕ, zero, suc, ◌+◌, ◌-◌, ◌*◌, ◌^◌, ◌<◌, ◌≤◌, min, List, [], ◌∷◌, length, get_or, ℤ, pos, sym, refl, ap, ◌∙◌, inl, inr, arith}
use Rattle.std.proofs.lemmas.List.{get_or_past}
use Rattle.std.proofs.lemmas.Bool.{cases_lt}
use Rattle.std.proofs.lemmas.List.FromFn.{get_or-map-range_with_len}
use Rattle.code.specs.Rows.{whole, octet}

pub whole-at : (row : List ℕ) (i : ℕ) → get_or (whole row) i (pos 0) ≡ pos (get_or row i 0)
whole-at [] i = refl
whole-at (x ∷ row) zero = refl
whole-at (x ∷ row) (suc i) = whole-at row i

pub octet-at : (v : List ℤ) (i j : ℕ) → j < 8 → get_or (octet v i) j (pos 0) ≡ get_or v (8 * i + j) (pos 0)
unfolding octet
octet-at v i j h = get_or-map-range_with_len (λ j. get_or v (8 * i + j) (pos 0)) 0 8 j j (pos 0) h (omega arith)

pub octet-length : (v : List ℤ) (i : ℕ) → length (octet v i) ≡ 8
unfolding octet
octet-length v i = refl

-- an octet that begins past the end
zeros : List ℤ
zeros = pos 0 ∷ pos 0 ∷ pos 0 ∷ pos 0 ∷ pos 0 ∷ pos 0 ∷ pos 0 ∷ pos 0 ∷ []

octet_past : (v : List ℤ) (i : ℕ) → length v ≤ 8 * i → octet v i ≡ zeros
unfolding octet zeros
octet_past v i h = simp (past 0, past 1, past 2, past 3, past 4, past 5, past 6, past 7)
  where
    past : (j : ℕ) → get_or v (8 * i + j) (pos 0) ≡ pos 0
    past j = get_or_past v (8 * i + j) (pos 0) (omega arith)

-- an index that does not fit its type is past the end
pub octet_saturated : (v : List ℤ) (i n : ℕ) → length v < 2 ^ 64 → i ≡ min n (2 ^ 64 - 1) → octet v i ≡ octet v n
octet_saturated v i n l e =
    elim (cases_lt n (2 ^ 64 - 1)) [
      | inl h ↦ ap (octet v) (omega (arith, e))
      | inr h ↦ octet_past v i (omega (arith, e)) ∙ sym (octet_past v n (omega arith))
    ]
