-- A row that is near a message reads as its bits, whatever numbers stand for its bytes.
use Rattle.std.proofs.Common.{◌≡◌, ℕ, ◌+◌, ◌-◌, ◌*◌, ◌/◌, ◌%◌, ◌^◌, ◌<◌, ◌≤◌, List, length, get_or, ℤ, sym, ap, ◌∙◌, ap₂, inl, inr, arith}
use lib.Pow.{field, mod-mod-pow}
use Rattle.std.proofs.lemmas.List.FromFn.{length-map-range_with_len, get_or-map-range_with_len}
use Rattle.std.proofs.lemmas.List.{get_or_past}
use Rattle.std.proofs.lemmas.Bool.{cases_lt}
use Rattle.code.specs.Widths.{radius}
use Rattle.code.specs.Messages.{message_bit, number}
use Rattle.code.specs.Rows.{decoded_byte, decoded, farthest}
use Rattle.code.proofs.MessageLaws.{number_even, number_odd}
use Rattle.code.proofs.Decoding.{nearest-near}

-- a byte's bits are those of the number modulo 256
low_bit : (b s : ℕ) → s < 8 → b % 256 / 2 ^ s % 2 ≡ b / 2 ^ s % 2
low_bit b s h = ap (λ (m : ℕ). b % 2 ^ m / 2 ^ s % 2) eight ∙ ap (λ (x : ℕ). x % 2) (field b (7 - s + 1) s) ∙ mod-mod-pow (b / 2 ^ s) (7 - s) 1
  where
    eight : 8 ≡ 7 - s + 1 + s
    eight = omega arith

-- the two numbers of a byte
byte_rest : (message : List ℕ) (j : ℕ) → number message (2 * j) + 16 * number message (2 * j + 1) ≡ get_or message j 0 % 256
byte_rest message j =
    omega (
      arith,
      number_even message (2 * j) (omega arith),
      number_odd message (2 * j + 1) (omega arith),
      ap (λ (i : ℕ). get_or message i 0) even,
      ap (λ (i : ℕ). get_or message i 0) odd,
    )
  where
    even : 2 * j / 2 ≡ j
    even = omega arith

    odd : (2 * j + 1) / 2 ≡ j
    odd = omega arith

pub length-decoded : (w : ℕ) (v : List ℤ) (n : ℕ) → length (decoded w v n) ≡ n
unfolding decoded
length-decoded w v n = length-map-range_with_len (decoded_byte w v) 0 n

module _ (w L : ℕ) (v : List ℤ) (bits : List ℕ) (long : 16 * length bits ≤ length v) (near : farthest w v bits ≤ L * L) (below : L < radius w) where
  decoded-at : (j : ℕ) → j < length bits → get_or (decoded w v (length bits)) j 0 ≡ get_or bits j 0 % 256
  unfolding decoded
  decoded-at j h =
      get_or-map-range_with_len (decoded_byte w v) 0 (length bits) j j 0 h (omega arith)
      ∙ ap₂ (λ (x y : ℕ). x + 16 * y) (nearest-near w L v bits (2 * j) (omega arith) near below) (nearest-near w L v bits (2 * j + 1) (omega arith) near below)
      ∙ byte_rest bits j

  pub decoded_bits : (i : ℕ) → message_bit (decoded w v (length bits)) i ≡ message_bit bits i
  decoded_bits i =
      elim (cases_lt (i / 8) (length bits)) [
        | inl h ↦ ap (λ (b : ℕ). b / 2 ^ (i % 8) % 2) (decoded-at (i / 8) h) ∙ low_bit (get_or bits (i / 8) 0) (i % 8) (omega arith)
        | inr h ↦ ap (λ (b : ℕ). b / 2 ^ (i % 8) % 2) (get_or_past (decoded w v (length bits)) (i / 8) 0 (omega (arith, length-decoded w v (length bits))) ∙ sym (get_or_past bits (i / 8) 0 h))
      ]
