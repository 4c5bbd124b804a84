-- The leading place that is computed is the highest place that is not zero, and the only one.
use Rattle.std.proofs.Common.{◌≡◌, ℕ, zero, suc, ◌<◌, ◌≤◌, Bool, true, false, cond, eqb, List, [], ◌∷◌, length, Some, None, Option, sym, refl, ap, subst, inl, inr, arith}
use Rattle.std.proofs.lemmas.Bool.{eqb-true, eqb-false, cases_order}
use Rattle.ring.specs.Residues.{residue_eq}
use Rattle.inversion.specs.Places.{at, Below, Leads}
use Rattle.inversion.specs.Leading.{F, field, raised, leading, Highest}

pub zero_of : (x : F) → x.value ≡ 0 → x ≡ field.zero
zero_of x e = residue_eq x field.zero e

pub value_of : (x : F) → x ≡ field.zero → x.value ≡ 0
value_of x e = ap (λ w. w.value) e

-- by the value of the first coefficient, where the others are zero
means_first : (x : F) (row : List F) → Below field 0 row → (t : Bool) → eqb x.value 0 ≡ t → Highest (x ∷ row) (cond t None (Some 0))
means_first x row h true e = λ i. elim i as (λ j. 0 ≤ j → at field (x ∷ row) j ≡ field.zero) [ zero ↦ λ _. zero_of x (eqb-true _ _ e) | suc j ↦ λ _. h j (omega arith) ]
means_first x row h false e = (
  omega arith,
  record {
    some = λ z. eqb-false _ _ e (value_of x z);
    above = λ i. elim i as (λ j. 1 ≤ j → at field (x ∷ row) j ≡ field.zero) [ zero ↦ λ k. absurd (omega arith) | suc j ↦ λ _. h j (omega arith) ];
  },
)

means_raised : (x : F) (row : List F) (o : Option ℕ) → Highest row o → Highest (x ∷ row) (raised x o)
means_raised x row None h = means_first x row h (eqb x.value 0) refl
means_raised x row (Some p) h = (
  omega (arith, h.0),
  record {
    some = h.1.some;
    above = λ i. elim i as (λ j. suc (suc p) ≤ j → at field (x ∷ row) j ≡ field.zero) [ zero ↦ λ k. absurd (omega arith) | suc j ↦ λ k. h.1.above j (omega arith) ];
  },
)

pub leading_means : (row : List F) → Highest row (leading row)
unfolding leading
leading_means [] = λ i _. refl
leading_means (x ∷ row) = means_raised x row (leading row) (leading_means row)

only_one : (row : List F) (p q : ℕ) → Leads field p row → Leads field q row → p ≡ q
only_one row p q h k =
    elim (cases_order p q) [
      | inl e ↦ e
      | inr d ↦ elim d [ inl l ↦ absurd (k.some (h.above q (omega arith))) | inr l ↦ absurd (h.some (k.above p (omega arith))) ]
    ]

leads_only : (row : List F) (p : ℕ) (o : Option ℕ) → Leads field p row → Highest row o → o ≡ Some p
leads_only row p None h m = absurd (h.some (m p (omega arith)))
leads_only row p (Some q) h m = ap Some (only_one row q p m.1 h)

none_only : (row : List F) (o : Option ℕ) → Below field 0 row → Highest row o → o ≡ None
none_only row None h m = refl
none_only row (Some q) h m = absurd (m.1.some (h q (omega arith)))

-- the place that leads is the leading place
pub leads_leading : (row : List F) (p : ℕ) → Leads field p row → leading row ≡ Some p
leads_leading row p h = leads_only row p (leading row) h (leading_means row)

pub none_leading : (row : List F) → Below field 0 row → leading row ≡ None
none_leading row h = none_only row (leading row) h (leading_means row)

pub leading-some : (row : List F) (p : ℕ) → leading row ≡ Some p → (p < length row) × Leads field p row
leading-some row p e = subst (λ (o : Option ℕ). Highest row o) e (leading_means row)

pub leading_none : (row : List F) → leading row ≡ None → Below field 0 row
leading_none row e = subst (λ (o : Option ℕ). Highest row o) e (leading_means row)

-- the highest place that is not zero is the leading place
pub highest_leading : (row : List F) (o : Option ℕ) → Highest row o → o ≡ leading row
highest_leading row None h = sym (none_leading row h)
highest_leading row (Some p) h = sym (leads_leading row p h.1)
