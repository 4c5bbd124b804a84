-- Numbers read digit by digit.
use Rattle.std.proofs.Common.{◌≡◌, ℕ, ◌+◌, ◌<◌, ◌≤◌, List, [], ◌∷◌, length, get_or, drop, Ok, arith}
use Rattle.std.proofs.lemmas.List.{at_drop_more, at_drop_all}
use Rattle.reading.specs.Numerals.{one_more, more_digits, digits_of}
use Rattle.reading.specs.Steps.{then}
use Rattle.reading.proofs.Stepping.{then_ok}

module _ (most : ℕ) where
  -- the next digit of those that are left
  pub digits_more : (n : ℕ) (text : List ℕ) (i : ℕ) → i < length text
      → more_digits most n (drop i text) ≡ then (one_more most n (get_or text i 0)) (λ next. more_digits most next (drop (i + 1) text))
  unfolding more_digits
  digits_more n text i less = at_drop_more (more_digits most n) text i 0 less

  pub digits-done : (n : ℕ) (text : List ℕ) (i : ℕ) → length text ≤ i → more_digits most n (drop i text) ≡ Ok n
  unfolding more_digits
  digits-done n text i all = at_drop_all (more_digits most n) text i all

  one_within : (n code value : ℕ) → one_more most n code ≡ Ok value → value ≤ most
  one_within n code value e = grind arith

  more_within : (n : ℕ) (text : List ℕ) (value : ℕ) → n ≤ most → more_digits most n text ≡ Ok value → value ≤ most
  unfolding more_digits
  more_within n [] value less e = grind arith
  more_within n (code ∷ text) value less e =
      let p = then_ok (one_more most n code) _ value e in
      more_within p.0 text value (one_within n code p.0 p.1) p.2

  -- a number that was read is within its limit
  pub digits_within : (text : List ℕ) (value : ℕ) → digits_of most text ≡ Ok value → value ≤ most
  digits_within text value e = grind (arith, more_within 0 text value)
