-- Bytes read pair by pair.
use Rattle.std.proofs.Common.{◌≡◌, ℕ, zero, suc, ◌*◌, List, [], ◌∷◌, length, get_or, Result, refl, arith}
use Rattle.std.specs.Simd.{first_chunks}
use Rattle.reading.specs.declared.fault.Unread.{Unread}
use Rattle.reading.specs.Hex.{byte_of, pairs}
use Rattle.reading.specs.Rows.{each}

-- the byte of a pair
abbrev pub byte_by : List ℕ → Result ℕ Unread
byte_by pair = byte_of (get_or pair 0 0) (get_or pair 1 0)

pub pairs_by_twos : (n : ℕ) (text : List ℕ) → length text ≡ 2 * n → pairs text ≡ each byte_by (first_chunks 2 n text)
unfolding pairs each
pairs_by_twos zero [] even = refl
pairs_by_twos zero (high ∷ text) even = absurd (omega arith)
pairs_by_twos (suc n) [] even = absurd (omega arith)
pairs_by_twos (suc n) (high ∷ []) even = absurd (omega arith)
pairs_by_twos (suc n) (high ∷ low ∷ text) even = rw (pairs_by_twos n text (omega arith))
