-- A row whose octets are all nearer to their words than the radius decodes to the message.
use Rattle.std.proofs.Common.{◌≡◌, ℕ, zero, suc, ◌+◌, ◌*◌, ◌/◌, ◌<◌, ◌≤◌, true, ltb, List, [], ◌∷◌, length, get_or, ℤ, sym, refl, ◌∙◌, ap₂, arith}
use Rattle.std.proofs.lemmas.List.FromFn.{fill_by_all}
use Rattle.std.proofs.lemmas.Bool.{and_parts, ltb-true}
use Rattle.ring.specs.Engines.{all_below}
use Rattle.code.specs.Widths.{radius}
use Rattle.code.specs.Messages.{number}
use Rattle.code.specs.Distances.{nearest}
use Rattle.code.specs.Rows.{octet, farthest, decoded_byte, decoded}
use Rattle.code.proofs.DistanceLaws.{sure}
use Rattle.code.proofs.MessageLaws.{number-below}
use Rattle.code.proofs.RowLaws.{octet-length}
use Rattle.code.proofs.Greatest.{farthest-above}
use Rattle.code.proofs.Decoding.{byte_halves}

bytes : (m : ℕ) (row : List ℕ) → all_below m row ≡ true → (i : ℕ) → i < length row → get_or row i 0 < m
bytes m [] t i h = absurd (omega arith)
bytes m (x ∷ row) t zero h = ltb-true x m (and_parts (ltb x m) (all_below m row) t).0
bytes m (x ∷ row) t (suc i) h = bytes m row (and_parts (ltb x m) (all_below m row) t).1 i (omega arith)

-- a row whose every octet is nearer to its word than the radius decodes to the message
pub decoded_within : (w : ℕ) (v : List ℤ) (message : List ℕ) → 16 * length message ≤ length v → all_below 256 message ≡ true → farthest w v message < radius w * radius w → decoded w v (length message) ≡ message
unfolding decoded
decoded_within w v message l b d =
    sym (fill_by_all (decoded_byte w v) message (length message) 0 refl (λ k h.
    sym (ap₂ (λ (x y : ℕ). x + 16 * y) (reads (2 * k) (omega arith)) (reads (2 * k + 1) (omega arith)) ∙ byte_halves message k (bytes 256 message b k h))))
  where
    reads : (i : ℕ) → i < length v / 8 → nearest w (octet v i) ≡ number message i
    reads i h = sure w (octet v i) (number message i) (octet-length v i) (number-below message i) (omega (arith, farthest-above w v message i h))
