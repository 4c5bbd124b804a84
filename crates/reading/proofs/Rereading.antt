-- A number that is written is read as it was.
use Rattle.std.proofs.Common.{◌≡◌, ℕ, ◌^◌, ◌<◌, ◌≤◌, pos, None, Ok, decimal, ap, ◌∙◌, arith}
use Rattle.std.proofs.lemmas.Fmt.{decimal_is_IsNumeral, digits_value-decimal}
use Rattle.std.proofs.lemmas.Str.Parse.{digit_at}
use Rattle.std.specs.Str.Parse.{digits_value}
use Rattle.reading.specs.Laws.{NumbersReturn}
use Rattle.reading.specs.Numerals.{digits_of, after_sign, unsigned_of, signed_of}
use Rattle.reading.proofs.Parsing.{own, read_ok, digits_read, sign_free}

-- no sign stands before a number that is written
no_sign : (sign n : ℕ) → sign < 48 → n < 2 ^ 64 → after_sign sign (decimal n) ≡ None
no_sign sign n low small =
    let reads = (decimal_is_IsNumeral n small).0 in
    sign_free sign (decimal n) (λ e. omega (arith, (digit_at (decimal n) 0 reads.1 reads.0).0))

module _ (most : ℕ) where
  digits_return : (n : ℕ) → n < 2 ^ 64 → n ≤ most → digits_of most (decimal n) ≡ Ok n
  digits_return n small fits =
      let numeral = (decimal_is_IsNumeral n small).0 in
      let value : digits_value 10 (decimal n) ≡ n = digits_value-decimal own n small in
      read_ok (digits_of most (decimal n)) (digits_value 10 (decimal n)) (digits_read most (decimal n)) (numeral.1, numeral.0, omega arith) ∙ ap Ok value

  pub unsigned_return : (n : ℕ) → n < 2 ^ 64 → n ≤ most → unsigned_of most (decimal n) ≡ Ok n
  unsigned_return n small fits = rw (no_sign 43 n (omega arith) small) (digits_return n small fits)

signed_return : (n : ℕ) → n < 2 ^ 31 → signed_of (decimal n) ≡ Ok (pos n)
signed_return n small =
    rw (no_sign 45 n (omega arith) (omega arith), unsigned_return 2147483647 n (omega arith) (omega arith))

pub numbers_return : NumbersReturn
numbers_return = record {
  number = λ n small. unsigned_return 18446744073709551615 n small (omega arith);
  width = λ n small. unsigned_return 4294967295 n (omega arith) (omega arith);
  signed = signed_return;
}
