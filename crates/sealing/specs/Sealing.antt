-- Sealing under a published key and unsealing with f', away from any station.
use Rattle.std.specs.Prelude.{◌≡◌, ℕ, ◌*◌, ◌/◌, ◌<◌, ◌≤◌, Bool, true, cond, ◌&&◌, List, length, ℤ, Ok, Err, Result, ◌==◌, nat_le}
use Rattle.ring.specs.Engines.{all_below}
use Rattle.ring.specs.declared.refusal.Refusal.{Refusal}
use Rattle.ring.specs.declared.refusal.Refusal.TheVariants.{Mismatch, Length, Noise, Width, Residue}
use Rattle.code.specs.Widths.{radius}
use Rattle.code.specs.Rows.{decoded}
use Rattle.packing.specs.Digits.{packed, unpacked}
use Rattle.wrapping.specs.Secrets.{all_small, Tied}
use Rattle.wrapping.specs.Wraps.{wrap, measured}
use Rattle.wrapping.specs.Exact.{Exact, loudest}

-- an engine of degree n at most 1024 with the modulus that the call needs
abbrev pub suits : ℕ → ℕ → ℕ → Bool
suits n m wanted = nat_le n 1024 && m == wanted

-- the width that such an engine goes on with, or 1 or 11
abbrev pub suited : ℕ → ℕ → ℕ → ℕ → ℕ → Result ℕ Refusal
suited lowest wanted n m w = cond (suits n m wanted) (cond (nat_le lowest w && nat_le w 11) (Ok w) (Err Width)) (Err Mismatch)

-- the answer of sealing with an engine of degree n and modulus m
abbrev pub seal_answer : ℕ → ℕ → ℕ → List ℕ → List ℤ → List ℕ → ℕ → Result (Unit {0}) Refusal
seal_answer n m w key r message size =
    cond (suits n m 3457)
    (cond (nat_le 9 w && nat_le w 11)
    (cond (length key == n * 12 / 8 && (length r == n && (length message == n / 16 && size == n * w / 8)))
    (cond (all_below 3457 (unpacked 12 n key))
    (cond (all_small r) (Ok tt) (Err Noise))
    (Err Residue))
    (Err Length))
    (Err Width))
    (Err Mismatch)

-- the sealed bytes: the coefficients that wrap the message under the published key, w bits each
abbrev pub sealed : ℕ → ℕ → List ℕ → List ℤ → List ℕ → List ℕ
sealed n w key r message = packed w (wrap n w (unpacked 12 n key) r message)

-- the answer of unsealing with an engine of degree n and modulus m
abbrev pub unseal_answer : ℕ → ℕ → ℕ → List ℤ → List ℕ → ℕ → Result (Unit {0}) Refusal
unseal_answer n m w f bytes size =
    cond (suits n m 2048)
    (cond (nat_le 8 w && nat_le w 11)
    (cond (length f == n && (length bytes == n * w / 8 && size == n / 16))
    (cond (all_small f) (Ok tt) (Err Noise))
    (Err Length))
    (Err Width))
    (Err Mismatch)

-- the message of the nearest words of c times f
abbrev pub unsealed : ℕ → ℕ → List ℤ → List ℕ → List ℕ
unsealed n w f bytes = decoded w (measured n f (unpacked w n bytes)) (n / 16)

-- unsealing gives back what was sealed, under a key in which h times f is g,
-- whenever the exact error is shorter than the radius in each octet
abbrev pub ComesBack : Type 0
ComesBack =
    (n w : ℕ) (f g : List ℤ) (h : List ℕ) (r e : List ℤ) (message : List ℕ)
    → 9 ≤ w → w ≤ 11 → Tied n f g h → length r ≡ n → 16 * length message ≡ n → all_below 256 message ≡ true
    → Exact n w f g h r e → loudest e < radius w * radius w
    → unsealed n w f (sealed n w (packed 12 h) r message) ≡ message
