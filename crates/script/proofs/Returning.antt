-- Bytes that are written are read as they were.
use Rattle.std.proofs.Common.{◌≡◌, ℕ, ◌+◌, ◌*◌, ◌/◌, ◌%◌, ◌<◌, Bool, true, false, ◌&&◌, eqb, ltb, List, [], ◌∷◌, length, Ok, codes, refl, ap, arith, ltb-true, eq-eqb}
use Rattle.std.proofs.lemmas.Bool.{and_parts}
use Rattle.std.specs.Str.{bytes_eq}
use Rattle.ring.specs.Engines.{all_below}
use Rattle.reading.specs.Hex.{digit_value, byte_of, pairs, bytes_of}
use Rattle.script.specs.Written.{digit_code, hex_of}

pub digit_returns : (value : ℕ) → value < 16 → digit_value (digit_code value) ≡ Ok value
digit_returns value small = grind arith

byte_returns : (byte : ℕ) → byte < 256 → byte_of (digit_code (byte / 16)) (digit_code (byte % 16)) ≡ Ok byte
byte_returns byte small =
    let whole : byte / 16 * 16 + byte % 16 ≡ byte = omega arith in
    rw (digit_returns (byte / 16) (omega arith), digit_returns (byte % 16) (omega arith)) (ap Ok whole)

pairs_return : (bytes : List ℕ) → all_below 256 bytes ≡ true → pairs (hex_of bytes) ≡ Ok bytes
unfolding pairs hex_of
pairs_return [] below = refl
pairs_return (byte ∷ bytes) below =
    let p = and_parts (ltb byte 256) (all_below 256 bytes) below in
    rw (byte_returns byte (ltb-true byte 256 p.0), pairs_return bytes p.1)

even : (bytes : List ℕ) → length (hex_of bytes) ≡ 2 * length bytes
unfolding hex_of
even [] = refl
even (byte ∷ bytes) = omega (arith, even bytes)

and_false : (b : Bool) → (b && false) ≡ false
and_false true = refl
and_false false = refl

-- at least two digits are no dash
no_dash : (byte : ℕ) (bytes : List ℕ) → bytes_eq (hex_of (byte ∷ bytes)) (codes "-") ≡ false
unfolding hex_of
no_dash byte bytes = and_false (eqb (digit_code (byte / 16)) 45)

pub bytes_return : (byte : ℕ) (bytes : List ℕ) → all_below 256 (byte ∷ bytes) ≡ true → bytes_of (hex_of (byte ∷ bytes)) ≡ Ok (byte ∷ bytes)
bytes_return byte bytes below =
    let two : length (hex_of (byte ∷ bytes)) % 2 ≡ 0 = omega (arith, even (byte ∷ bytes)) in
    rw (no_dash byte bytes, eq-eqb (length (hex_of (byte ∷ bytes)) % 2) 0 two) (pairs_return (byte ∷ bytes) below)
