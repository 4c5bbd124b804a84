-- The root rounded up is the least whole number whose square is enough.
use Rattle.std.proofs.Common.{◌≡◌, ℕ, zero, suc, ◌*◌, ◌<◌, ◌≤◌, leb, inl, inr, mul-le-mul, arith}
use Rattle.std.proofs.lemmas.Bool.{cond_both, leb-true, leb-false, cases_order}
use Rattle.code.specs.Roots.{root_up, LeastRoot}

pub root_least : (s : ℕ) → LeastRoot s (root_up s)
unfolding root_up
root_least zero = record { enough = omega arith; least = λ j h. absurd (omega arith) }
root_least (suc s) =
    let b : LeastRoot s (root_up s) = root_least s in
    cond_both (leb (suc s) (root_up s * root_up s)) (root_up s) (suc (root_up s)) (LeastRoot (suc s))
    (λ e. record { enough = leb-true (suc s) (root_up s * root_up s) e; least = λ j h. omega (arith, b.least j h) })
    (λ e. record {
      enough = omega (arith, leb-false (suc s) (root_up s * root_up s) e, b.enough);
      least = λ j h. omega (arith, leb-false (suc s) (root_up s * root_up s) e, mul-le-mul (under j h) (under j h));
    })
  where
    under : (j : ℕ) → j < suc (root_up s) → j ≤ root_up s
    under j h = omega arith

pub root_unique : (s q r : ℕ) → LeastRoot s q → LeastRoot s r → q ≡ r
root_unique s q r a b =
    elim (cases_order q r) [
      | inl e ↦ e
      | inr d ↦ elim d [
        | inl l ↦ absurd (omega (arith, b.least q l, a.enough))
        | inr l ↦ absurd (omega (arith, a.least r l, b.enough))
      ]
    ]
