-- What the end of Euclid's algorithm says of the inverse of f.
use Rattle.std.proofs.Common.{◌≡◌, ℕ, ◌<◌, ◌≤◌, ◌||◌, eqb, ltb, List, length, IfErr, Some, None, Ok, Err, Option, Result, sym, refl, ap, ◌∙◌, subst, arith, MatchOption, MatchResult}
use Rattle.std.proofs.lemmas.Result.{MatchResult-weaker}
use Rattle.std.proofs.lemmas.Bool.{cond-true, cond-false, or_from, ne_eqb, le-ltb, eq-eqb}
use Rattle.ring.specs.declared.refusal.Refusal.{Refusal}
use Rattle.ring.specs.declared.refusal.Refusal.TheVariants.{NoInverse}
use Rattle.ring.specs.Rows.{add_into, zeros, product}
use Rattle.inversion.specs.Places.{at}
use Rattle.inversion.specs.Leading.{F, field, leading}
use Rattle.inversion.specs.Euclid.{reciprocal}
use Rattle.inversion.proofs.Chains.{Chain}
use Rattle.inversion.specs.Inverse.{refused, Inverse, Only, NoInverseOf}
use Rattle.inversion.proofs.Highest.{leads_leading, leading_none}
use Rattle.inversion.proofs.Chains as c
use Rattle.inversion.proofs.Units as unit_row
use Rattle.inversion.proofs.Remainders.{reciprocal-inverts}
use Rattle.inversion.proofs.Runs.{Running}

-- an inverse is the only one
pub only-inverse : (f u : List F) → 0 < length f → Inverse f u → Only f u
only-inverse f u some h v g = unit_row.inverse_unique field (length f) some f v u refl g.long h.long g.one h.one

-- a constant as the last remainder gives the inverse
pub constant_inverts : (f a v b w : List F) → 0 < length f → Running f a v b w → leading a ≡ Some 0 → (y : List F)
    → y ≡ add_into field (zeros field (length f)) (reciprocal (at field a 0)) v → Inverse f y
constant_inverts f a v b w some h e y y-is =
    let same : Some h.top ≡ Some 0 = sym (leads_leading a h.top h.chain.upper_leads) ∙ e in
    let z : h.top ≡ 0 = cc in
    let chain : Chain field (length f) f 0 a v b w = subst (λ (t : ℕ). Chain field (length f) f t a v b w) z h.chain in
    record {
      long = ap length y-is ∙ unit_row.length_cut field (length f) some (reciprocal (at field a 0)) v;
      one = ap (λ x. product field (length f) x f) y-is
          ∙ c.found field (length f) some f refl a v b w (reciprocal (at field a 0)) chain (reciprocal-inverts (at field a 0) chain.upper_leads.some);
    }

-- anything else leaves none
pub others_leave_none : (f a v b w : List F) → 0 < length f → Running f a v b w → leading b ≡ None → (leading a ≡ Some 0 → ⊥) → NoInverseOf f
others_leave_none f a v b w some h end not y g =
    let high : h.top ≡ 0 → ⊥ = λ z. not (leads_leading a h.top h.chain.upper_leads ∙ ap Some z) in
    c.none field (length f) some f refl h.top a v b w (omega (arith, high)) h.chain (leading_none b end) y g.one

-- the end of the algorithm, by its answer r and the row y that it leaves
pub solved : (f before a v b w y : List F) (r : Result (Unit {0}) Refusal) → 0 < length f → length before ≡ length f → Running f a v b w → leading b ≡ None
    → MatchResult r (λ _. (leading a ≡ Some 0) × (y ≡ add_into field (zeros field (length before)) (reciprocal (at field a 0)) v)) (λ _. leading a ≡ Some 0 → ⊥)
    → MatchResult r (λ _. Inverse f y) (λ _. NoInverseOf f)
solved f before a v b w y r some l h end m =
    MatchResult-weaker r m
    (λ _ g. constant_inverts f a v b w some h g.0 y (g.1 ∙ ap (λ n. add_into field (zeros field n) (reciprocal (at field a 0)) v) l))
    (λ _ g. others_leave_none f a v b w some h end g)

-- the refusal for want of an inverse comes exactly where there is none
pub exactly_none : (f after : List F) (o : Option Refusal) (r : Result (Unit {0}) Refusal)
    → MatchOption o (IfErr r (λ e. e ≡ NoInverse)) (λ e. r ≡ Err e)
    → MatchResult r (λ _. Inverse f after) (λ e. e ≡ NoInverse → NoInverseOf f)
    → (r ≡ Err NoInverse → NoInverseOf f) × (o ≡ None → NoInverseOf f → r ≡ Err NoInverse)
exactly_none f after o (Ok t) which what = (λ e. absurd (let z : ◌≡◌ {A = ℕ} 0 1 = cc in omega arith), λ _ none. absurd (none after what))
exactly_none f after None (Err e) which what = (λ same. what (let z : e ≡ NoInverse = cc in z), λ _ _. ap Err which)
exactly_none f after (Some d) (Err e) which what = (λ same. what (let z : e ≡ NoInverse = cc in z), λ same. absurd (let z : ◌≡◌ {A = ℕ} 0 1 = cc in omega arith))

-- a row of a lawful length with a buffer of the same is not refused before the search
pub not-refused : (n places : ℕ) → (n ≡ 0 → ⊥) → n ≤ 1024 → places ≡ n → refused n places ≡ None
not-refused n places some within same =
    cond-false (eqb n 0 || ltb 1024 n) _ _ (or_from (eqb n 0) (ltb 1024 n) (ne_eqb n 0 some) (le-ltb 1024 n within)) ∙ cond-true (eqb places n) _ _ (eq-eqb places n same)

-- then the answer is the inverse, or that there is none
pub searched : (n places : ℕ) (r : Result (Unit {0}) Refusal) (K : Type 0) → (n ≡ 0 → ⊥) → n ≤ 1024 → places ≡ n
    → IfErr r (λ e. (e ≡ NoInverse) × K)
    → MatchOption (refused n places) (IfErr r (λ e. e ≡ NoInverse)) (λ e. r ≡ Err e)
searched n places r K some within same which =
    subst (λ (o : Option Refusal). MatchOption o (IfErr r (λ e. e ≡ NoInverse)) (λ e. r ≡ Err e)) (sym (not-refused n places some within same))
    (MatchResult-weaker r which (λ _ t. t) (λ _ g. g.0))
