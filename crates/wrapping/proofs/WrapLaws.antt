-- A wrapping is as near to its words as its exact error is short, and opens where that is below the radius.
use Rattle.std.proofs.Common.{◌≡◌, ℕ, ◌-◌, ◌*◌, ◌/◌, ◌^◌, ◌<◌, ◌≤◌, true, List, [], ◌∷◌, length, ℤ, sym, ap, ◌∙◌, inl, inr, mul-le-mul, arith}
use Rattle.std.proofs.lemmas.Bool.{cases_lt}
use Rattle.ring.specs.Rows.{product}
use Rattle.ring.specs.Integers.{integers}
use Rattle.ring.specs.Engines.{all_below}
use Rattle.code.specs.Widths.{radius}
use Rattle.code.specs.Distances.{squares, folded_squares}
use Rattle.code.specs.Rows.{Alike, whole, octet, farthest, decoded}
use Rattle.code.specs.Roots.{root_up}
use Rattle.code.proofs.FoldLaws.{radius-pos, fold_small}
use Rattle.code.proofs.RootLaws.{root_least}
use Rattle.code.proofs.Greatest.{greatest-above}
use Rattle.wrapping.specs.Secrets.{secret, Tied}
use Rattle.wrapping.specs.Wraps.{sigma, wrap, measured, allowance}
use Rattle.wrapping.specs.Exact.{Exact, loudest}
use Rattle.wrapping.proofs.Alikes.{alike_sym, alike_trans}
use Rattle.wrapping.proofs.ExactErrors.{length-sigma, rounded_row, length-rounded, exact_agrees}
use Rattle.wrapping.proofs.Offsets.{offset, length-offset, below-offset, octet-squares_alike}
use Rattle.wrapping.proofs.SecretLaws.{length-measured}
use Rattle.wrapping.proofs.Embeddings.{offset-embedded, wrap_agrees}
use Rattle.wrapping.proofs.Openings.{decoded_within}

-- ---- lengths
squares_folded : (r : ℕ) (xs : List ℤ) → 0 < r → folded_squares r xs ≤ squares xs
squares_folded r [] h = omega arith
squares_folded r (x ∷ xs) h = omega (arith, squares_folded r xs h, mul-le-mul (fold_small r x h) (fold_small r x h))

pub octet-loudest : (e : List ℤ) (i : ℕ) → i < length e / 8 → squares (octet e i) ≤ loudest e
unfolding loudest
octet-loudest e i h = greatest-above (λ i. squares (octet e i)) (length e / 8) i h

-- a row whose offset agrees with e is no farther than e is long
pub farthest-loudest : (w : ℕ) (v e : List ℤ) (message : List ℕ) → 0 < w → Alike (2 ^ w) (offset w v message) e → farthest w v message ≤ loudest e
farthest-loudest w v e message hw a =
    below-offset w v message (loudest e) (λ i h.
    let l : length e ≡ length v = sym a.long ∙ length-offset w v message in
    let k : i < length e / 8 = omega (arith, ap (λ (m : ℕ). m / 8) l) in
    omega (arith, octet-squares_alike w (offset w v message) e i hw a, squares_folded (radius w) (octet e i) (radius-pos w), octet-loudest e i k))

pub wrap_near : (n w : ℕ) (f g : List ℤ) (h : List ℕ) (r e : List ℤ) (message : List ℕ) → 0 < w → Tied n f g h → length r ≡ n → Exact n w f g h r e → farthest w (measured n f (wrap n w h r message)) message ≤ loudest e
unfolding measured
wrap_near n w f g h r e message hw t lr x =
    farthest-loudest w (product integers n (whole c) (secret f)) e message hw
    (alike_trans (2 ^ w) (offset w (product integers n (whole c) (secret f)) message) (product integers n u (secret f)) e
    (offset-embedded n w f (whole c) u message hw t.some t.f_long (length-rounded w (sigma n h r) ∙ ls) (wrap_agrees n w (sigma n h r) message ls))
    (alike_sym (2 ^ w) e (product integers n u (secret f)) (exact_agrees n w f g h r t lr e x)))
  where
    c : List ℕ
    c = wrap n w h r message

    u : List ℤ
    u = rounded_row w (sigma n h r)

    ls : length (sigma n h r) ≡ n
    ls = length-sigma n h r t.some lr

-- ---- allowances
root_below : (s r : ℕ) → 0 < r → s ≤ (r - 1) * (r - 1) → root_up s < r
root_below s r h l = elim (cases_lt (r - 1) (root_up s)) [ inl k ↦ absurd (omega (arith, (root_least s).least (r - 1) k)) | inr k ↦ omega arith ]

pub wrap_fair : (n w : ℕ) (f g : List ℤ) (h : List ℕ) (r e : List ℤ) (message : List ℕ) → 0 < w → Tied n f g h → length r ≡ n → Exact n w f g h r e → loudest e ≤ (radius w - 1) * (radius w - 1) → allowance n w f (wrap n w h r message) message < radius w
unfolding allowance
wrap_fair n w f g h r e message hw t lr x l =
    root_below (farthest w (measured n f (wrap n w h r message)) message) (radius w) (radius-pos w) (omega (arith, wrap_near n w f g h r e message hw t lr x))

pub allowance_covers : (n w : ℕ) (f : List ℤ) (c message : List ℕ) → farthest w (measured n f c) message ≤ allowance n w f c message * allowance n w f c message
unfolding allowance
allowance_covers n w f c message = (root_least (farthest w (measured n f c) message)).enough

pub wrap_opens : (n w : ℕ) (f g : List ℤ) (h : List ℕ) (r e : List ℤ) (message : List ℕ) → 0 < w → Tied n f g h → length r ≡ n → 16 * length message ≡ n → all_below 256 message ≡ true → Exact n w f g h r e → loudest e < radius w * radius w → decoded w (measured n f (wrap n w h r message)) (length message) ≡ message
wrap_opens n w f g h r e message hw t lr lm b x l =
    decoded_within w (measured n f (wrap n w h r message)) message (omega (arith, length-measured n f (wrap n w h r message) t.some t.f_long)) b
    (omega (arith, wrap_near n w f g h r e message hw t lr x))
