-- A search from the back of a row stops at its highest place that is not zero.
use Rattle.std.proofs.Common.{◌≡◌, ℕ, ◌+◌, ◌-◌, ◌<◌, ◌≤◌, List, [], ◌∷◌, length, reverse, Some, None, Option, MatchOption, IfSome, Iter, sym, ap, ◌∙◌, subst, inl, inr, arith}
use Rattle.std.specs.List.{AllWithin, HoldsAt}
use Rattle.std.specs.Option.{IsSomeAnd, option_map}
use Rattle.std.specs.Slice.Iter.{iter_rest, iter_steps_back}
use Rattle.std.proofs.lemmas.Iterator.{YieldsList}
use Rattle.std.proofs.lemmas.Iterator.Consumers.{YieldsList-from_shown}
use Rattle.std.proofs.lemmas.List.{length-reverse, reverse-append, get_or-reverse, get_or_past}
use Rattle.std.proofs.lemmas.Bool.{cases_order}
use Rattle.inversion.specs.Places.{at}
use Rattle.inversion.specs.Leading.{F, field, Highest}
use Rattle.inversion.proofs.Highest.{zero_of, value_of}

-- an iterator over a row gives it backwards from its back
pub back : {A : Type 0} {s : Iter A} (xs : List A) → iter_rest s ≡ xs → YieldsList iter_steps_back (λ y. y.now) s (reverse xs)
back {A} {s} xs e =
    subst (λ (k : List A). YieldsList iter_steps_back (λ y. y.now) s (reverse k)) e
    (YieldsList-from_shown iter_steps_back (λ y. y.now) (λ u. reverse (iter_rest u)) (λ u t p. length-reverse _ ∙ p.0)
    (λ u x t p. ap reverse p ∙ reverse-append (iter_rest t) (x.now ∷ [])) s)

-- a place of n, counted from the end
abbrev pub from_end : ℕ → Option ℕ → Option ℕ
from_end n r = option_map (λ i. n - 1 - i) r

pub counted : {A : Type 0} (P : A → Type 0) (n m : ℕ) (o : Option A) (r : Option ℕ) → MatchOption o (r ≡ None) (λ x. IsSomeAnd r (λ i. i + 1 + m ≡ n) × P x)
    → MatchOption o (from_end n r ≡ None) (λ x. (from_end n r ≡ Some m) × P x)
counted P n m None r h = ap (from_end n) h
counted P n m (Some x) None h = absurd h.0
counted P n m (Some x) (Some i) h = (ap Some (omega (arith, h.0)), h.1)

abbrev pub Zero : F → Type 0
Zero x = x.value ≡ 0

abbrev pub NonZero : F → Type 0
NonZero x = x.value ≡ 0 → ⊥

-- the last j places are zero
last-zero : (row : List F) (j i : ℕ) → AllWithin Zero (reverse row) 0 j → length row ≤ i + j → i < length row → at field row i ≡ field.zero
last-zero row j i h g inside =
    let k = length row - 1 - i in
    let e : length row - 1 - k ≡ i = omega arith in
    zero_of (at field row i)
    (ap (λ (x : F). x.value) (sym (get_or-reverse row k field.zero (omega arith) ∙ ap (at field row) e)) ∙ h k field.zero (omega arith) (omega arith))

from-zero : (row : List F) (j i : ℕ) → AllWithin Zero (reverse row) 0 j → length row ≤ i + j → at field row i ≡ field.zero
from-zero row j i h g =
    elim (cases_order i (length row)) [
      | inl e ↦ get_or_past row i field.zero (omega arith)
      | inr d ↦ elim d [ inl l ↦ last-zero row j i h g l | inr l ↦ get_or_past row i field.zero (omega arith) ]
    ]

pub highest : (row : List F) (n : ℕ) (r : Option ℕ) → n ≡ length row → IfSome r (λ i. i < n)
    → MatchOption (from_end n r) (AllWithin Zero (reverse row) 0 (length (reverse row))) (λ j. (j < length (reverse row)) × HoldsAt NonZero (reverse row) j × AllWithin Zero (reverse row) 0 j)
    → Highest row r
highest row n None l b h = λ i _. from-zero row (length (reverse row)) i h (omega (arith, length-reverse row))
highest row n (Some p) l b h =
    let within : p < n = b in
    let j = n - 1 - p in
    let e : length row - 1 - j ≡ p = omega arith in (
      omega arith,
      record {
        some = λ z. h.1 field.zero (value_of _ (get_or-reverse row j field.zero (omega arith) ∙ ap (at field row) e ∙ z));
        above = λ i g. from-zero row j i h.2 (omega arith);
      },
    )
