-- Packing a key and unpacking it undo each other.
use Rattle.std.proofs.Common.{◌≡◌, ℕ, ◌*◌, ◌/◌, ◌%◌, true, eqb, List, length, Ok, sym, refl, ap, ◌∙◌, mul-div_cancel, arith}
use native.Mathlib.Nat.{div-add-mod}
use Rattle.std.proofs.lemmas.Bool.{eq-eqb, and_from, cond-true}
use Rattle.std.proofs.lemmas.Bool.Decides.{nat_tests}
use Rattle.ring.specs.Engines.{all_below}
use Rattle.packing.specs.Digits.{packed, unpacked}
use Rattle.packing.specs.Answers.{key_degree, key_answer, pack_row_answer, pack_key_answer, unpack_key_answer}
use Rattle.packing.specs.Laws.{KeysReturn}
use Rattle.packing.proofs.Below.{below_higher}
use Rattle.packing.proofs.Trips.{length-packed, length-unpacked, row_back, bytes_back}

-- what an obeyed key has
record Obeyed (n numbers bytes : ℕ) (entries : List ℕ) : Type 0 where
  degree : key_degree n ≡ true
  sixteens : n % 16 ≡ 0
  numbers_are : numbers ≡ n
  bytes_are : bytes ≡ n * 12 / 8
  residues : all_below 3457 entries ≡ true

obeyed : (n numbers bytes : ℕ) (entries : List ℕ) → key_answer n numbers bytes entries ≡ Ok tt → Obeyed n numbers bytes entries
obeyed n numbers bytes entries e = record {
  degree = grind (arith, nat_tests);
  sixteens = grind (arith, nat_tests);
  numbers_are = grind (arith, nat_tests);
  bytes_are = grind (arith, nat_tests);
  residues = grind (arith, nat_tests);
}

obeys : (n numbers bytes : ℕ) (entries : List ℕ) → Obeyed n numbers bytes entries → key_answer n numbers bytes entries ≡ Ok tt
obeys n numbers bytes entries o =
    let same_numbers : eqb numbers n ≡ true = eq-eqb _ _ o.numbers_are in
    let same_bytes : eqb bytes (n * 12 / 8) ≡ true = eq-eqb _ _ o.bytes_are in
    cond-true _ _ _ o.degree ∙ cond-true _ _ _ (and_from _ _ same_numbers same_bytes) ∙ cond-true _ _ _ o.residues

-- what packing a row answers at entries that were checked
pub key_row_answer : (row : List ℕ) (bytes : ℕ) → all_below 3457 row ≡ true → bytes * 8 ≡ length row * 12 → pack_row_answer 12 row bytes ≡ Ok tt
key_row_answer row bytes low fills =
    let fits = below_higher 3457 4096 row (omega arith) low in
    grind (arith, nat_tests)

-- entries of 12 bits in sixteens fill whole bytes
whole_bytes : (n : ℕ) → n % 16 ≡ 0 → n * 12 / 8 * 8 ≡ n * 12
whole_bytes n sixteens =
    let e : n * 12 ≡ n / 16 * 24 * 8 = omega (arith, div-add-mod n 16) in
    ap (λ k. k / 8 * 8) e ∙ ap (λ k. k * 8) (mul-div_cancel (n / 16 * 24) (omega arith)) ∙ sym e

key_back : (n : ℕ) (row : List ℕ) (bytes : ℕ) → pack_key_answer n row bytes ≡ Ok tt → unpacked 12 n (packed 12 row) ≡ row
key_back n row bytes e =
    let o = obeyed n (length row) bytes row e in
    ap (λ k. unpacked 12 k (packed 12 row)) (sym o.numbers_are)
    ∙ row_back 12 row (below_higher 3457 4096 row (omega arith) o.residues) (ap (λ k. k * 12 % 8) o.numbers_are ∙ omega (arith, whole_bytes n o.sixteens))

key-taken : (n : ℕ) (row : List ℕ) (bytes : ℕ) → pack_key_answer n row bytes ≡ Ok tt → unpack_key_answer n (packed 12 row) n ≡ Ok tt
key-taken n row bytes e =
    let o = obeyed n (length row) bytes row e in
    obeys n n (length (packed 12 row)) (unpacked 12 n (packed 12 row)) (record {
      degree = o.degree;
      sixteens = o.sixteens;
      numbers_are = refl;
      bytes_are = length-packed 12 row ∙ ap (λ k. k * 12 / 8) o.numbers_are;
      residues = ap (all_below 3457) (key_back n row bytes e) ∙ o.residues;
    })

bytes_taken : (n : ℕ) (bytes : List ℕ) (numbers : ℕ) → unpack_key_answer n bytes numbers ≡ Ok tt → pack_key_answer n (unpacked 12 n bytes) (n * 12 / 8) ≡ Ok tt
bytes_taken n bytes numbers e =
    let o = obeyed n numbers (length bytes) (unpacked 12 n bytes) e in
    obeys n (length (unpacked 12 n bytes)) (n * 12 / 8) (unpacked 12 n bytes) (record {
      degree = o.degree;
      sixteens = o.sixteens;
      numbers_are = length-unpacked 12 n bytes;
      bytes_are = refl;
      residues = o.residues;
    })

key_bytes_back : (n : ℕ) (bytes : List ℕ) (numbers : ℕ) → all_below 256 bytes ≡ true → unpack_key_answer n bytes numbers ≡ Ok tt → packed 12 (unpacked 12 n bytes) ≡ bytes
key_bytes_back n bytes numbers low e =
    let o = obeyed n numbers (length bytes) (unpacked 12 n bytes) e in
    bytes_back 12 n bytes low (omega (arith, whole_bytes n o.sixteens))

pub keys_return : KeysReturn
keys_return = record { key_accepted = key-taken; key_returns = key_back; bytes_accepted = bytes_taken; bytes_return = key_bytes_back }
