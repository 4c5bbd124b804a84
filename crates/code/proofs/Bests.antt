-- The first number at which a function is least.
use Rattle.std.proofs.Common.{◌≡◌, ℕ, zero, suc, ◌+◌, ◌-◌, ◌<◌, ◌≤◌, ltb, refl, ap, ◌∙◌, subst, inl, inr, arith}
use Rattle.std.proofs.lemmas.Bool.{cond_both, ltb-true, ltb-false, cases_lt, cases_eq, cases_order}
use Rattle.code.specs.Distances.{first_least}
use Rattle.code.specs.Tries.{Best}

pub best_none : (f : ℕ → ℕ) (d : ℕ) → d ≡ f 0 → Best f 1 0 d
best_none f d e = record { below = omega arith; value = e; least = λ j h. omega (arith, e, ap f (zeroth j h)); first = λ j h. absurd (omega arith) }
  where
    zeroth : (j : ℕ) → j < 1 → j ≡ 0
    zeroth j h = omega arith

pub best_keeps : (f : ℕ → ℕ) (n k d k' d' : ℕ) → Best f n k d → d ≤ f n → k' ≡ k → d' ≡ d → Best f (n + 1) k' d'
best_keeps f n k d k' d' b h ek ed = record {
  below = omega (arith, b.below);
  value = omega (arith, b.value, ap f ek);
  least = λ j l. elim (cases_eq j n) [ inl e ↦ omega (arith, h, ap f e) | inr e ↦ omega (arith, b.least j (omega arith)) ];
  first = λ j l. omega (arith, b.first j (omega arith));
}

pub best_takes : (f : ℕ → ℕ) (n k d k' d' : ℕ) → Best f n k d → f n < d → k' ≡ n → d' ≡ f n → Best f (n + 1) k' d'
best_takes f n k d k' d' b h ek ed = record {
  below = omega arith;
  value = omega (arith, ap f ek);
  least = λ j l. elim (cases_eq j n) [ inl e ↦ omega (arith, ap f e) | inr e ↦ omega (arith, b.least j (omega arith)) ];
  first = λ j l. omega (arith, b.least j (omega arith));
}

-- of a function with the same values
pub best_same : (f g : ℕ → ℕ) (n m k d : ℕ) → n ≡ m → ((j : ℕ) → j < m → f j ≡ g j) → Best f n k d → Best g m k d
best_same f g n m k d en e b = record {
  below = omega (arith, b.below);
  value = b.value ∙ e k (omega (arith, b.below));
  least = λ j l. omega (arith, b.least j (omega arith), e j l);
  first = λ j l. omega (arith, b.first j l, e j (omega (arith, l, b.below)));
}

-- ---- two tries joined: the second has the values from 8 on
back : (j : ℕ) → 8 ≤ j → j - 8 + 8 ≡ j
back j m = omega arith

pub best_first : (f g : ℕ → ℕ) (k d k' d' : ℕ) → ((j : ℕ) → j < 8 → g j ≡ f (j + 8)) → Best f 8 k d → Best g 8 k' d' → d ≤ d' → Best f 16 k d
best_first f g k d k' d' e b b' h = record {
  below = omega (arith, b.below);
  value = b.value;
  least = λ j l. elim (cases_lt j 8) [ inl m ↦ b.least j m | inr m ↦ omega (arith, b'.least (j - 8) (omega arith), e (j - 8) (omega arith), ap f (back j m)) ];
  first = b.first;
}

pub best_second : (f g : ℕ → ℕ) (k d k' d' : ℕ) → ((j : ℕ) → j < 8 → g j ≡ f (j + 8)) → Best f 8 k d → Best g 8 k' d' → d' < d → Best f 16 (k' + 8) d'
best_second f g k d k' d' e b b' h = record {
  below = omega (arith, b'.below);
  value = b'.value ∙ e k' b'.below;
  least = λ j l. elim (cases_lt j 8) [ inl m ↦ omega (arith, b.least j m) | inr m ↦ omega (arith, b'.least (j - 8) (omega arith), e (j - 8) (omega arith), ap f (back j m)) ];
  first = λ j l. elim (cases_lt j 8) [ inl m ↦ omega (arith, b.least j m) | inr m ↦ omega (arith, b'.first (j - 8) (omega arith), e (j - 8) (omega (arith, b'.below)), ap f (back j m)) ];
}

-- ---- the function that names it
pub least_best : (f : ℕ → ℕ) (n : ℕ) → Best f (n + 1) (first_least f n) (f (first_least f n))
unfolding first_least
least_best f zero = best_none f (f 0) refl
least_best f (suc n) =
    cond_both (ltb (f (suc n)) (f (first_least f n))) (suc n) (first_least f n) (λ k. Best f (suc n + 1) k (f k))
    (λ e. best_takes f (suc n) (first_least f n) (f (first_least f n)) (suc n) (f (suc n)) (again (n + 1) (suc n) (omega arith) (least_best f n)) (ltb-true (f (suc n)) (f (first_least f n)) e) refl refl)
    (λ e. best_keeps f (suc n) (first_least f n) (f (first_least f n)) (first_least f n) (f (first_least f n)) (again (n + 1) (suc n) (omega arith) (least_best f n)) (ltb-false (f (suc n)) (f (first_least f n)) e) refl refl)
  where
    again : (m n : ℕ) → m ≡ n → {k d : ℕ} → Best f m k d → Best f n k d
    again m n e {k} {d} b = subst (λ (m : ℕ). Best f m k d) e b

pub best_unique : (f : ℕ → ℕ) (n j k c d : ℕ) → Best f n j c → Best f n k d → j ≡ k
best_unique f n j k c d a b =
    elim (cases_order j k) [
      | inl e ↦ e
      | inr x ↦ elim x [
        | inl l ↦ absurd (omega (arith, b.first j l, a.value, a.least k b.below, b.value))
        | inr l ↦ absurd (omega (arith, a.first k l, b.value, b.least j a.below, a.value))
      ]
    ]

pub first_least-same : (f g : ℕ → ℕ) (n : ℕ) → ((j : ℕ) → j ≤ n → f j ≡ g j) → first_least f n ≡ first_least g n
first_least-same f g n e =
    best_unique g (n + 1) (first_least f n) (first_least g n) (f (first_least f n)) (g (first_least g n))
    (best_same f g (n + 1) (n + 1) (first_least f n) (f (first_least f n)) refl (λ j l. e j (omega arith)) (least_best f n)) (least_best g n)
