-- Packing and unpacking undo each other.
use Rattle.std.specs.Prelude.{◌≡◌, ℕ, ◌*◌, ◌/◌, ◌%◌, ◌^◌, true, List, length, Ok}
use Rattle.ring.specs.Engines.{all_below}
use Rattle.packing.specs.Digits.{packed, unpacked}
use Rattle.packing.specs.Answers.{pack_key_answer, unpack_key_answer}

-- numbers that fit in w bits and fill whole bytes come back, and so do bytes that whole numbers fill
pub record RoundTrips : Type 0 where
  pub row_returns : (w : ℕ) (row : List ℕ) → all_below (2 ^ w) row ≡ true → length row * w % 8 ≡ 0 → unpacked w (length row) (packed w row) ≡ row
  pub bytes_return : (w count : ℕ) (bytes : List ℕ) → all_below 256 bytes ≡ true → length bytes * 8 ≡ count * w → packed w (unpacked w count bytes) ≡ bytes

-- a key that packing accepts is accepted by unpacking and comes back, and the same the other way round
pub record KeysReturn : Type 0 where
  pub key_accepted : (n : ℕ) (row : List ℕ) (bytes : ℕ) → pack_key_answer n row bytes ≡ Ok tt → unpack_key_answer n (packed 12 row) n ≡ Ok tt
  pub key_returns : (n : ℕ) (row : List ℕ) (bytes : ℕ) → pack_key_answer n row bytes ≡ Ok tt → unpacked 12 n (packed 12 row) ≡ row
  pub bytes_accepted : (n : ℕ) (bytes : List ℕ) (numbers : ℕ) → unpack_key_answer n bytes numbers ≡ Ok tt → pack_key_answer n (unpacked 12 n bytes) (n * 12 / 8) ≡ Ok tt
  pub bytes_return : (n : ℕ) (bytes : List ℕ) (numbers : ℕ) → all_below 256 bytes ≡ true → unpack_key_answer n bytes numbers ≡ Ok tt → packed 12 (unpacked 12 n bytes) ≡ bytes
