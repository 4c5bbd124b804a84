-- What follows from what a reader answers.
use Rattle.std.proofs.Common.{◌≡◌, ℕ, ◌+◌, ◌-◌, ◌*◌, ◌%◌, ◌^◌, ◌<◌, ◌≤◌, Ok, Err, ap, mul-le-mul_right, arith}
use Rattle.std.proofs.lemmas.Bool.Decides.{nat_tests}
use Rattle.ring.specs.declared.refusal.Refusal.TheVariants.{Length}
use Rattle.ring.specs.declared.refusal.Refusal.{Refusal}
use Rattle.packing.specs.Answers.{enough_answer, taken}

pub enough_short : (w left : ℕ) → left < w → Err Length ≡ enough_answer w left
enough_short w left short = grind (arith, nat_tests)

pub taken_is : (w left n x : ℕ) → Ok x ≡ taken w left n → x ≡ n % 2 ^ w
taken_is w left n x e = grind (arith, nat_tests)

pub taken_never : (w left n : ℕ) (why : Refusal) → 8 ≤ w → w ≤ 12 → w ≤ left → Err why ≡ taken w left n → ⊥
taken_never w left n why low high enough e = grind (arith, nat_tests)

-- where k numbers of w bits are left and k is not zero, there is one to take
pub one_left : (w k : ℕ) → 0 < k → w ≤ k * w
one_left w k some = omega (arith, mul-le-mul_right w some)

-- and one fewer after it
pub one_fewer : (w n i : ℕ) → i < n → (n - i) * w ≡ (n - (i + 1)) * w + w
one_fewer w n i within = omega (arith, ap (λ k. k * w) (let e : n - i ≡ (n - (i + 1)) + 1 = omega arith in e))
