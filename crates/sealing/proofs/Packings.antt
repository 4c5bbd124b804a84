-- Rows and their bytes, where degrees are multiples of sixteen.
use Rattle.std.proofs.Common.{◌≡◌, ℕ, ◌-◌, ◌*◌, ◌/◌, ◌%◌, ◌^◌, ◌≤◌, true, List, ◌++◌, length, take, Ok, Result, sym, ap, ◌∙◌, ap₂, mul-div_cancel, arith, pow_mono}
use native.Mathlib.Nat.{div-add-mod}
use Rattle.std.proofs.lemmas.List.{length-take-le, take_at}
use Rattle.std.proofs.lemmas.Bool.Decides.{nat_tests}
use Rattle.ring.specs.declared.refusal.Refusal.{Refusal}
use Rattle.ring.specs.Engines.{all_below}
use Rattle.packing.specs.Digits.{unpacked}
use Rattle.packing.specs.Answers.{lengths_answer, pack_row_answer, unpack_key_answer, written}
use Rattle.packing.proofs.Below.{below_higher}
use Rattle.packing.proofs.Trips.{unpacked-below}

-- sixteens of w bits fill whole bytes
pub whole_bytes : (n w : ℕ) → n % 16 ≡ 0 → n * w / 8 * 8 ≡ n * w
whole_bytes n w sixteens =
    let e : n * w ≡ n / 16 * 2 * w * 8 = ap (λ k. k * w) (let d : n ≡ n / 16 * 16 = omega (arith, div-add-mod n 16) in d) ∙ omega arith in
    ap (λ k. k / 8 * 8) e ∙ ap (λ k. k * 8) (mul-div_cancel (n / 16 * 2 * w) (omega arith)) ∙ sym e

-- a number of at most 11 bits is below 2048
pub unpacked-low : (w n : ℕ) (bytes row : List ℕ) → w ≤ 11 → row ≡ unpacked w n bytes → all_below 2048 row ≡ true
unpacked-low w n bytes row h e =
    ap (all_below 2048) e
    ∙ below_higher (2 ^ w) 2048 (unpacked w n bytes) (pow_mono {i = w} {j = 11} h) (unpacked-below w n bytes)

-- what was unpacked into the first n places, which the code cuts at n - 0
module _ (n : ℕ) (row new rest : List ℕ) (small : n ≤ 1024) (long : length row ≡ 1024) (filled : length new ≡ length (take (n - 0) row)) where
  size : length (take (n - 0) row) ≡ n
  size = length-take-le (n - 0) row (omega arith) ∙ omega arith

  front : take n (new ++ rest) ≡ new
  front = take_at new rest n (filled ∙ size)

  cut : take (n - 0) row ≡ take n row
  cut = ap (λ k. take k row) (omega arith)

  pub key_answer_is : (r : Result (Unit {0}) Refusal) (bytes : List ℕ) → r ≡ unpack_key_answer n bytes (length (take (n - 0) row)) → r ≡ unpack_key_answer n bytes n
  key_answer_is r bytes e = e ∙ ap (λ k. unpack_key_answer n bytes k) size

  pub key_front : (r : Result (Unit {0}) Refusal) (bytes : List ℕ) → new ≡ written r (unpacked 12 n bytes) (take (n - 0) row)
      → take n (new ++ rest) ≡ written r (unpacked 12 n bytes) (take n row)
  key_front r bytes e = front ∙ e ∙ ap (λ old. written r (unpacked 12 n bytes) old) cut

  pub row_obeys : (w bits : ℕ) (r : Result (Unit {0}) Refusal) (bytes : List ℕ) → bits ≡ w → 8 ≤ w → w ≤ 11 → length bytes * 8 ≡ n * w
      → r ≡ lengths_answer bits (length (take (n - 0) row)) (length bytes) → r ≡ Ok tt
  row_obeys w bits r bytes b low high l e = e ∙ ap₂ (λ v k. lengths_answer v k (length bytes)) b size ∙ grind (arith, nat_tests)

  pub row_front : (w bits : ℕ) (r : Result (Unit {0}) Refusal) (bytes : List ℕ) → bits ≡ w → r ≡ Ok tt
      → new ≡ written r (unpacked bits (length (take (n - 0) row)) bytes) (take (n - 0) row) → take n (new ++ rest) ≡ unpacked w n bytes
  row_front w bits r bytes b ok e =
      front ∙ e ∙ ap (λ a. written a (unpacked bits (length (take (n - 0) row)) bytes) (take (n - 0) row)) ok ∙ ap₂ (λ v k. unpacked v k bytes) b size

-- a row of n numbers of w bits is packed
pub row_packs : (w : ℕ) (row : List ℕ) (bytes : ℕ) → 8 ≤ w → w ≤ 11 → bytes * 8 ≡ length row * w → all_below (2 ^ w) row ≡ true → pack_row_answer w row bytes ≡ Ok tt
row_packs w row bytes low high l t = grind (arith, nat_tests)

-- bytes that are as many as sixteens of w bits need
pub bytes_fill : (n read w bytes : ℕ) → n % 16 ≡ 0 → read ≡ w → bytes ≡ n * read / 8 → bytes * 8 ≡ n * w
bytes_fill n read w bytes sixteens same l = ap (λ k. k * 8) (l ∙ ap (λ v. n * v / 8) same) ∙ whole_bytes n w sixteens
