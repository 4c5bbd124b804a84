-- How much packing and unpacking give, and that they undo each other.
use Rattle.std.proofs.Common.{◌≡◌, ℕ, zero, suc, ◌+◌, ◌*◌, ◌/◌, ◌%◌, ◌^◌, ◌<◌, true, List, length, sym, ap, ◌∙◌, subst, ap₂, arith}
use native.Mathlib.Nat.{pow-zero, pow-succ'}
use Rattle.std.proofs.lemmas.Nat.{pow_pos, pow-add}
use Rattle.ring.specs.Engines.{all_below}
use Rattle.packing.specs.Digits.{value, digits, packed, unpacked}
use Rattle.packing.specs.Laws.{RoundTrips}
use Rattle.packing.proofs.Positional.{length_digits, digits-below, value_lt, digits_value, value-digits}

pub length-packed : (w : ℕ) (row : List ℕ) → length (packed w row) ≡ length row * w / 8
unfolding packed
length-packed w row = length_digits _ _ _

pub length-unpacked : (w count : ℕ) (bytes : List ℕ) → length (unpacked w count bytes) ≡ count
unfolding unpacked
length-unpacked w count bytes = length_digits _ _ _

pub packed-below : (w : ℕ) (row : List ℕ) → all_below 256 (packed w row) ≡ true
unfolding packed
packed-below w row = digits-below _ _ _ (omega arith)

pub unpacked-below : (w count : ℕ) (bytes : List ℕ) → all_below (2 ^ w) (unpacked w count bytes) ≡ true
unfolding unpacked
unpacked-below w count bytes = digits-below _ _ _ (pow_pos w)

pow_pow : (w count : ℕ) → (2 ^ w) ^ count ≡ 2 ^ (count * w)
pow_pow w zero = pow-zero (2 ^ w) ∙ ap (λ k. 2 ^ k) (let e : 0 ≡ 0 * w = omega arith in e)
pow_pow w (suc count) =
    pow-succ' (2 ^ w) count ∙ ap (λ q. 2 ^ w * q) (pow_pow w count) ∙ sym (pow-add 2 w (count * w))
    ∙ ap (λ k. 2 ^ k) (let e : w + count * w ≡ suc count * w = omega arith in e)

-- the same bits in groups of w and of u
pub pow_groups : (w u count units : ℕ) → count * w ≡ units * u → (2 ^ w) ^ count ≡ (2 ^ u) ^ units
pow_groups w u count units same = pow_pow w count ∙ ap (λ k. 2 ^ k) same ∙ sym (pow_pow u units)

pub row_back : (w : ℕ) (row : List ℕ) → all_below (2 ^ w) row ≡ true → length row * w % 8 ≡ 0 → unpacked w (length row) (packed w row) ≡ row
unfolding packed unpacked
row_back w row low whole =
    let m = length row * w / 8 in
    let v = value (2 ^ w) row in
    let fits : v < 256 ^ m = subst (λ q. v < q) (pow_groups w 8 (length row) m (omega arith)) (value_lt (2 ^ w) row low) in
    ap (digits (2 ^ w) (length row)) (value-digits 256 m v (omega arith) fits) ∙ digits_value (2 ^ w) row low

pub bytes_back : (w count : ℕ) (bytes : List ℕ) → all_below 256 bytes ≡ true → length bytes * 8 ≡ count * w → packed w (unpacked w count bytes) ≡ bytes
unfolding packed unpacked
bytes_back w count bytes low same =
    let v = value 256 bytes in
    let fits : v < (2 ^ w) ^ count = subst (λ q. v < q) (pow_groups 8 w (length bytes) count same) (value_lt 256 bytes low) in
    let many : length (digits (2 ^ w) count v) * w / 8 ≡ length bytes =
    ap (λ k. k * w / 8) (length_digits (2 ^ w) count v) ∙ omega arith in
    ap₂ (digits 256) many (value-digits (2 ^ w) count v (pow_pos w) fits) ∙ digits_value 256 bytes low

pub round_trips : RoundTrips
round_trips = record { row_returns = row_back; bytes_return = bytes_back }
