-- Whether each digit of a number is below a limit, one digit after another.
use Rattle.std.proofs.Common.{◌≡◌, ℕ, suc, ◌+◌, ◌-◌, ◌/◌, ◌%◌, ◌<◌, ◌≤◌, false, ◌&&◌, ltb, Ok, Err, sym, ap, ◌∙◌, ap₂, arith}
use Rattle.std.proofs.lemmas.Bool.{lt-ltb, le-ltb}
use Rattle.std.proofs.lemmas.Bool.Decides.{nat_tests}
use Rattle.ring.specs.declared.refusal.Refusal.{Refusal}
use Rattle.ring.specs.declared.refusal.Refusal.TheVariants.{Residue}
use Rattle.packing.specs.Answers.{entry_answer}
use Rattle.ring.specs.Engines.{all_below}
use Rattle.packing.specs.Digits.{digits}

module _ (m b n i rest rest' x : ℕ) (within : i < n) (x-is : x ≡ rest % b) (rest_is : rest' ≡ rest / b) where
  entry : all_below m (digits b (n - i) rest) ≡ (ltb x m && all_below m (digits b (n - (i + 1)) rest'))
  unfolding digits
  entry =
      ap (λ k. all_below m (digits b k rest)) (let e : n - i ≡ suc (n - (i + 1)) = omega arith in e)
      ∙ ap₂ (λ y r. ltb y m && all_below m (digits b (n - (i + 1)) r)) (sym x-is) (sym rest_is)

  pub entry_stops : m ≤ x → all_below m (digits b (n - i) rest) ≡ false
  entry_stops high = entry ∙ ap (λ t. t && all_below m (digits b (n - (i + 1)) rest')) (le-ltb x m high)

  pub entry_goes : x < m → all_below m (digits b (n - i) rest) ≡ all_below m (digits b (n - (i + 1)) rest')
  entry_goes low = entry ∙ ap (λ t. t && all_below m (digits b (n - (i + 1)) rest')) (lt-ltb x m low)

pub entry_refused : (x : ℕ) (why : Refusal) → Err why ≡ entry_answer x → (3457 ≤ x) × (why ≡ Residue)
entry_refused x why e = (grind (arith, nat_tests), grind (arith, nat_tests))

pub entry_obeyed : (x : ℕ) → Ok tt ≡ entry_answer x → x < 3457
entry_obeyed x e = grind (arith, nat_tests)
