-- A row that is near a message decodes to it.
use Rattle.std.proofs.Common.{◌≡◌, ℕ, ◌+◌, ◌*◌, ◌/◌, ◌<◌, ◌≤◌, List, length, get_or, ℤ, sym, refl, ap, ◌∙◌, ap₂, mul-le-mul, arith}
use Rattle.std.proofs.lemmas.List.FromFn.{fill_by_all}
use Rattle.code.specs.Widths.{radius}
use Rattle.code.specs.Distances.{nearest}
use Rattle.code.specs.Messages.{number}
use Rattle.code.specs.Rows.{octet, decoded_byte, decoded, farthest}
use Rattle.code.proofs.DistanceLaws.{sure}
use Rattle.code.proofs.MessageLaws.{number_even, number_odd, number-below}
use Rattle.code.proofs.RowLaws.{octet-length}
use Rattle.code.proofs.Greatest.{farthest-above}

-- a byte from its two numbers
pub byte_halves : (message : List ℕ) (j : ℕ) → get_or message j 0 < 256 → number message (2 * j) + 16 * number message (2 * j + 1) ≡ get_or message j 0
byte_halves message j h =
    omega (
      arith,
      number_even message (2 * j) (omega arith),
      number_odd message (2 * j + 1) (omega arith),
      ap (λ (i : ℕ). get_or message i 0) even,
      ap (λ (i : ℕ). get_or message i 0) odd,
    )
  where
    even : 2 * j / 2 ≡ j
    even = omega arith

    odd : (2 * j + 1) / 2 ≡ j
    odd = omega arith

-- an octet within L of its word reads as that word
pub nearest-near : (w L : ℕ) (v : List ℤ) (message : List ℕ) (i : ℕ) → i < length v / 8 → farthest w v message ≤ L * L → L < radius w → nearest w (octet v i) ≡ number message i
nearest-near w L v message i h f l =
    sure w (octet v i) (number message i) (octet-length v i) (number-below message i) (omega (arith, farthest-above w v message i h, mul-le-mul l l))

pub decoded_near : (w L : ℕ) (v : List ℤ) (message : List ℕ) → 16 * length message ≤ length v → ((i : ℕ) → i < length message → get_or message i 0 < 256) → farthest w v message ≤ L * L → L < radius w → decoded w v (length message) ≡ message
unfolding decoded
decoded_near w L v message l b f m =
    sym (fill_by_all (decoded_byte w v) message (length message) 0 refl (λ k h.
    sym (ap₂ (λ (x y : ℕ). x + 16 * y) (nearest-near w L v message (2 * k) (omega arith) f m) (nearest-near w L v message (2 * k + 1) (omega arith) f m)
    ∙ byte_halves message k (b k h))))
