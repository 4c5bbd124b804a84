-- The number of an octet as half of a byte, and the words of a message in a row.
use Rattle.std.proofs.Common.{◌≡◌, ℕ, ◌+◌, ◌*◌, ◌/◌, ◌%◌, ◌^◌, ◌<◌, ◌≤◌, List, length, get_or, ap, ap₂, inl, inr, arith}
use native.Mathlib.Nat.{div-div-eq-div-mul}
use Rattle.std.proofs.lemmas.List.{get_or_past}
use Rattle.std.proofs.lemmas.Bool.{cases_eq}
use Rattle.code.specs.Messages.{message_bit, number}

-- bit 4 i + t of a message is bit s of byte i / 2
bit_at : (message : List ℕ) (n j s : ℕ) → n / 8 ≡ j → n % 8 ≡ s → message_bit message n ≡ get_or message j 0 / 2 ^ s % 2
bit_at message n j s e f = ap₂ (λ (a b : ℕ). get_or message a 0 / 2 ^ b % 2) e f

low_half : (b : ℕ) → b / 1 % 2 + 2 * (b / 2 % 2) + 4 * (b / 4 % 2) + 8 * (b / 8 % 2) ≡ b % 16
low_half b = omega (arith, sixteen b, eight (b / 2), ap (λ (y : ℕ). y % 4) (half_half b), four (b / 4), ap (λ (y : ℕ). y % 2) (quarter_half b))
  where
    sixteen : (x : ℕ) → x % 16 ≡ x % 2 + 2 * (x / 2 % 8)
    sixteen x = omega arith

    eight : (x : ℕ) → x % 8 ≡ x % 2 + 2 * (x / 2 % 4)
    eight x = omega arith

    four : (x : ℕ) → x % 4 ≡ x % 2 + 2 * (x / 2 % 2)
    four x = omega arith

    half_half : (x : ℕ) → x / 2 / 2 ≡ x / 4
    half_half x = div-div-eq-div-mul x 2 2

    quarter_half : (x : ℕ) → x / 4 / 2 ≡ x / 8
    quarter_half x = div-div-eq-div-mul x 4 2

high_half : (b : ℕ) → b / 16 % 2 + 2 * (b / 32 % 2) + 4 * (b / 64 % 2) + 8 * (b / 128 % 2) ≡ b / 16 % 16
high_half b =
    omega (arith, low_half (b / 16), ap (λ (y : ℕ). y % 2) (div-div-eq-div-mul b 16 2), ap (λ (y : ℕ). y % 2) (div-div-eq-div-mul b 16 4), ap (λ (y : ℕ). y % 2) (div-div-eq-div-mul b 16 8))

-- an even octet has the low half of its byte, an odd one the high half
pub number_even : (message : List ℕ) (i : ℕ) → i % 2 ≡ 0 → number message i ≡ get_or message (i / 2) 0 % 16
unfolding number
number_even message i h =
    omega (
      arith,
      bit_at message (4 * i) (i / 2) 0 (omega arith) (omega arith),
      bit_at message (4 * i + 1) (i / 2) 1 (omega arith) (omega arith),
      bit_at message (4 * i + 2) (i / 2) 2 (omega arith) (omega arith),
      bit_at message (4 * i + 3) (i / 2) 3 (omega arith) (omega arith),
      low_half (get_or message (i / 2) 0),
    )

pub number_odd : (message : List ℕ) (i : ℕ) → i % 2 ≡ 1 → number message i ≡ get_or message (i / 2) 0 / 16 % 16
unfolding number
number_odd message i h =
    omega (
      arith,
      bit_at message (4 * i) (i / 2) 4 (omega arith) (omega arith),
      bit_at message (4 * i + 1) (i / 2) 5 (omega arith) (omega arith),
      bit_at message (4 * i + 2) (i / 2) 6 (omega arith) (omega arith),
      bit_at message (4 * i + 3) (i / 2) 7 (omega arith) (omega arith),
      high_half (get_or message (i / 2) 0),
    )

pub number-below : (message : List ℕ) (i : ℕ) → number message i < 16
unfolding number
number-below message i = omega arith

pub number_past : (message : List ℕ) (i : ℕ) → length message ≤ i / 2 → number message i ≡ 0
number_past message i h =
    elim (cases_eq (i % 2) 0) [
      | inl e ↦ omega (arith, number_even message i e, get_or_past message (i / 2) 0 h)
      | inr n ↦ omega (arith, number_odd message i (odd i n), get_or_past message (i / 2) 0 h)
    ]
  where
    odd : (i : ℕ) → (i % 2 ≡ 0 → ⊥) → i % 2 ≡ 1
    odd i n = elim (cases_eq (i % 2) 1) [ inl e ↦ e | inr m ↦ absurd (n (zero_left i m)) ]
      where
        zero_left : (i : ℕ) → (i % 2 ≡ 1 → ⊥) → i % 2 ≡ 0
        zero_left i m = omega arith
