-- Every nonzero residue modulo 3457 has x^3455 for its inverse: one test, computed over the whole range.
use Rattle.std.proofs.Common.{◌≡◌, ℕ, zero, suc, ◌+◌, ◌*◌, ◌%◌, ◌<◌, ◌≤◌, Bool, true, false, ◌&&◌, eqb, List, ◌∷◌, length, get_or, drop, sym, refl, ap, ◌∙◌, subst, ap₂, inl, inr, add-one, arith, drop_of_length-le, drop-cons}
use Rattle.std.proofs.lemmas.Bool.{and_parts, cases_eq, eqb-true}
use Rattle.ring.specs.Powers.{climb, rung, exponent}

abbrev inverts : ℕ → Bool
inverts k = eqb (k * climb k 1 exponent % 3457) 1

abbrev all : ℕ → Bool
all zero = true
all (suc n) = inverts (suc n) && all n

tested : all 3456 ≡ true
unfolding climb
tested = refl

each : (n : ℕ) → all n ≡ true → (k : ℕ) → 0 < k → k ≤ n → inverts k ≡ true
each zero t k h g = absurd (omega arith)
each (suc n) t k h g =
    elim (cases_eq k (suc n)) [
      | inl e ↦ subst (λ (m : ℕ). inverts m ≡ true) (sym e) (and_parts (inverts (suc n)) (all n) t).0
      | inr d ↦ each n (and_parts (inverts (suc n)) (all n) t).1 k h (omega arith)
    ]

pub power_inverts : (k : ℕ) → k ≤ 3456 → (k ≡ 0 → ⊥) → k * climb k 1 exponent % 3457 ≡ 1
power_inverts k h some = eqb-true (k * climb k 1 exponent % 3457) 1 (each 3456 tested k (omega (arith, some)) h)

-- one bit more
pub climb-more : (x p q i : ℕ) (b : Bool) → i < length exponent → b ≡ get_or exponent i false → q ≡ rung x p b
    → climb x q (drop (i + 1) exponent) ≡ climb x p (drop i exponent)
unfolding climb
climb-more x p q i b within b-is q-is =
    sym (ap (climb x p) (drop-cons exponent i false within ∙ ap₂ {C = List Bool} (λ c k. c ∷ drop k exponent) (sym b-is) (sym (add-one i))) ∙ ap (λ w. climb x w (drop (i + 1) exponent)) (sym q-is))

pub climb-all : (x p i : ℕ) → length exponent ≤ i → climb x p (drop i exponent) ≡ p
unfolding climb
climb-all x p i h = ap (climb x p) (drop_of_length-le exponent h)
