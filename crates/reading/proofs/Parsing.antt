-- What std parses as a number is the number that the digits write.
use Rattle.std.proofs.Common.{◌≡◌, ℕ, ◌+◌, ◌-◌, ◌*◌, ◌^◌, ◌<◌, ◌≤◌, ◌≢◌, ◌⊎◌, List, [], ◌∷◌, length, get_or, drop, ℤ, pos, neg_ℤ, Some, None, Ok, Err, Result, MatchResult, OkIff, sym, refl, ap, ◌∙◌, ⊎_elim, inl, inr, arith, w32, eq-eqb, ne_eqb}
use Rattle.std.proofs.lemmas.Bool.{cases_eq, cases_lt}
use Rattle.std.proofs.lemmas.Bool.Decides.{nat_tests}
use Rattle.std.proofs.lemmas.Str.{IsUtf8-from_ascii, digit_value_digit}
use Rattle.std.proofs.lemmas.Str.Ascii.{IsAscii-nil, IsAscii-cons}
use Rattle.std.proofs.lemmas.Str.Parse.{digit_from_value, numerals_by_value, tells_digits, IsNumeralModel, parse_plain, parse_plus, parse_signed_plain, parse_signed_plus, parse_signed_minus}
use Rattle.std.specs.Char.{digit_value}
use Rattle.std.specs.Str.{IsAscii, IsUtf8}
use Rattle.std.specs.Str.Parse.{AllDigits, digits_value, digits_value_after}
use mir.Val.{hbits}
use Rattle.reading.specs.declared.fault.Unread.{Unread}
use Rattle.reading.specs.declared.fault.Unread.TheVariants.{Number}
use Rattle.reading.specs.Numerals.{one_more, more_digits, digits_of, after_sign, unsigned_of, signed_of}
use Rattle.reading.specs.Parses.{GivesUnsigned, GivesSigned, Parsed}
use Rattle.reading.specs.Steps.{then}

-- the answer is v where P holds, and else no number
abbrev pub Reads : {T : Type 0} → Result T Unread → Type 0 → T → Type 0
Reads r P v = MatchResult r (λ x. P × (x ≡ v)) (λ e. ¬ P × (e ≡ Number))

reads_by : {T : Type 0} {P Q : Type 0} (r : Result T Unread) (v : T) → (P → Q) → (Q → P) → Reads r P v → Reads r Q v
reads_by (Ok x) v to from h = (to h.0, h.1)
reads_by (Err e) v to from h = (λ q. h.0 (from q), h.1)

pub read_ok : {T : Type 0} {P : Type 0} (r : Result T Unread) (v : T) → Reads r P v → P → r ≡ Ok v
read_ok (Ok x) v h p = ap Ok h.1
read_ok (Err e) v h p = absurd (h.0 p)

-- what is read is turned into something else
reads_as : {S T : Type 0} (P : Type 0) (f : S → T) (r : Result S Unread) (v : S) → Reads r P v → Reads (then r (λ x. Ok (f x))) P (f v)
reads_as P f (Ok x) v h = (h.0, ap f h.1)
reads_as P f (Err e) v h = h

module _ (most : ℕ) where
  after_above : (n : ℕ) (text : List ℕ) → n ≤ digits_value_after 10 n text
  after_above n [] = omega arith
  after_above n (code ∷ text) = omega (arith, after_above (n * 10 + digit_value code) text)

  -- one more digit that can be read
  abbrev Goes : ℕ → ℕ → Type 0
  Goes n code = (digit_value code < 10) × (n * 10 + digit_value code ≤ most)

  one_low : (n code : ℕ) → code < 48 → one_more most n code ≡ Err Number
  one_low n code low = grind (arith, nat_tests)

  one_high : (n code : ℕ) → 57 < code → one_more most n code ≡ Err Number
  one_high n code high = grind (arith, nat_tests)

  one_fits : (n code : ℕ) → 48 ≤ code → code ≤ 57 → n * 10 + (code - 48) ≤ most → one_more most n code ≡ Ok (n * 10 + (code - 48))
  one_fits n code low high fits = grind (arith, nat_tests)

  one_over : (n code : ℕ) → 48 ≤ code → code ≤ 57 → most < n * 10 + (code - 48) → one_more most n code ≡ Err Number
  one_over n code low high over = grind (arith, nat_tests)

  abbrev OneMore : ℕ → ℕ → Type 0
  OneMore n code = (Goes n code × (one_more most n code ≡ Ok (n * 10 + digit_value code))) ⊎ (¬ (Goes n code) × (one_more most n code ≡ Err Number))

  one_digit : (n code : ℕ) → 48 ≤ code → code ≤ 57 → OneMore n code
  one_digit n code low high =
      let digit = digit_value_digit code (low, high) in
      let same : code - 48 ≡ digit_value code = omega arith in
      ⊎_elim
      (λ over. inr (λ g. omega (arith, g.1), one_over n code low high (omega arith)))
      (λ fits. inl ((omega arith, fits), one_fits n code low high (omega arith) ∙ ap (λ d. Ok (n * 10 + d)) same))
      (cases_lt most (n * 10 + digit_value code))

  one_reads : (n code : ℕ) → OneMore n code
  one_reads n code = ⊎_elim
      (λ low. inr (λ g. let digit = digit_from_value code g.0 in omega arith, one_low n code low))
      (λ low. ⊎_elim
      (λ high. inr (λ g. let digit = digit_from_value code g.0 in omega arith, one_high n code high))
      (λ high. one_digit n code low high)
      (cases_lt 57 code))
      (cases_lt code 48)

  more_reads : (n : ℕ) (text : List ℕ) → n ≤ most → Reads (more_digits most n text) (AllDigits 10 text × (digits_value_after 10 n text ≤ most)) (digits_value_after 10 n text)
  unfolding more_digits
  more_reads n [] less = ((tt, less), refl)
  more_reads n (code ∷ text) less =
      let next = n * 10 + digit_value code in
      ⊎_elim
      (λ w. rw w.1 (reads_by (more_digits most next text) (digits_value_after 10 next text) (λ p. ((w.0.0, p.0), p.1)) (λ p. (p.0.1, p.1)) (more_reads next text w.0.1)))
      (λ w. rw w.1 (λ p. w.0 (p.0.0, omega (arith, after_above next text, p.1)), refl))
      (one_reads n code)

  pub digits_read : (text : List ℕ) → Reads (digits_of most text) (AllDigits 10 text × (0 < length text) × (digits_value 10 text ≤ most)) (digits_value 10 text)
  digits_read [] = (λ p. absurd (omega arith), refl)
  digits_read (code ∷ text) =
      rw (ne_eqb (length (code ∷ text)) 0 (λ e. omega arith))
      (reads_by (more_digits most 0 (code ∷ text)) (digits_value 10 (code ∷ text)) (λ p. (p.0, omega arith, p.1)) (λ p. (p.0, p.2)) (more_reads 0 (code ∷ text) (omega arith)))

-- a sign, or none
signed_text : (sign : ℕ) (text : List ℕ) → get_or text 0 0 ≡ sign → 0 < sign → after_sign sign text ≡ Some (drop 1 text)
signed_text sign [] e some = absurd (omega arith)
signed_text sign (code ∷ text) e some = rw (eq-eqb code sign e)

pub sign_free : (sign : ℕ) (text : List ℕ) → get_or text 0 0 ≢ sign → after_sign sign text ≡ None
sign_free sign [] other = refl
sign_free sign (code ∷ text) other = rw (ne_eqb code sign other)

-- digits are text, also after a sign
digits_ascii : (text : List ℕ) → AllDigits 10 text → IsAscii text
digits_ascii [] digits = IsAscii-nil
digits_ascii (code ∷ text) digits =
    let digit = digit_from_value code digits.0 in
    IsAscii-cons code text (omega arith) (digits_ascii text digits.1)

signed_utf8 : (text : List ℕ) → get_or text 0 0 < 128 → AllDigits 10 (drop 1 text) → IsUtf8 text
signed_utf8 [] low digits = IsUtf8-from_ascii [] IsAscii-nil
signed_utf8 (code ∷ text) low digits = IsUtf8-from_ascii (code ∷ text) (IsAscii-cons code text low (digits_ascii text digits))

agrees : {T E : Type 0} (gives : List ℕ → Result T E → Type 0) (text : List ℕ) {P : Type 0} (v : T)
    → ((q : Result T E) → gives text q → OkIff q P v) → (P → IsUtf8 text)
    → (r s : Result T Unread) → Parsed gives text r → Reads s P v → r ≡ s
agrees gives text v means utf8 (Ok n) (Ok x) h k = ap Ok ((means (Ok n) h).1 ∙ sym k.1)
agrees gives text v means utf8 (Ok n) (Err d) h k = absurd (k.0 (means (Ok n) h).0)
agrees gives text v means utf8 (Err e) (Ok x) h k = ⊎_elim (λ no. absurd (no (utf8 k.0))) (λ w. absurd (means (Err w.0) w.1 k.0)) h.1
agrees gives text v means utf8 (Err e) (Err d) h k = ap Err (h.0 ∙ sym k.1)

pub own : IsNumeralModel (AllDigits 10) (digits_value 10)
own = numerals_by_value (AllDigits 10) tells_digits

module _ (k most : ℕ) (bits : (n : ℕ) → (n ≤ most → n < 2 ^ k) × (n < 2 ^ k → n ≤ most)) where
  within : (ds : List ℕ) → Reads (digits_of most ds) (AllDigits 10 ds × (0 < length ds) × (digits_value 10 ds < 2 ^ k)) (digits_value 10 ds)
  within ds =
      let n = digits_value 10 ds in
      reads_by (digits_of most ds) n (λ p. (p.0, p.1, (bits n).0 p.2)) (λ p. (p.0, p.1, (bits n).1 p.2)) (digits_read most ds)

  pub unsigned_parsed : (text : List ℕ) (r : Result ℕ Unread) → Parsed (GivesUnsigned k) text r → r ≡ unsigned_of most text
  unsigned_parsed text r h = ⊎_elim
      (λ plus.
      let e = signed_text 43 text plus (omega arith) in
      agrees (GivesUnsigned k) text (digits_value 10 (drop 1 text)) (λ q g. parse_plus own k text q g.0 plus) (λ p. signed_utf8 text (omega arith) p.0)
      r (unsigned_of most text) h (rw e (within (drop 1 text))))
      (λ none.
      let e = sign_free 43 text none in
      agrees (GivesUnsigned k) text (digits_value 10 text) (λ q g. parse_plain own k text q g.0 none) (λ p. IsUtf8-from_ascii text (digits_ascii text p.0))
      r (unsigned_of most text) h (rw e (within text)))
      (cases_eq (get_or text 0 0) 43)

below : (ds : List ℕ) → Reads (digits_of 2147483647 ds) (AllDigits 10 ds × (0 < length ds) × (digits_value 10 ds < 2 ^ hbits w32)) (digits_value 10 ds)
below ds = within 31 2147483647 (λ n. (λ h. omega arith, λ h. omega arith)) ds

minus_parsed : (text : List ℕ) (r : Result ℤ Unread) → Parsed GivesSigned text r → get_or text 0 0 ≡ 45 → r ≡ signed_of text
minus_parsed text r h minus =
    let e = signed_text 45 text minus (omega arith) in
    let ds = drop 1 text in
    agrees GivesSigned text (neg_ℤ (pos (digits_value 10 ds))) (λ q g. parse_signed_minus own w32 text q g.0 minus) (λ p. signed_utf8 text (omega arith) p.0)
    r (signed_of text) h (rw e (reads_as _ (λ n. neg_ℤ (pos n)) (digits_of 2147483648 ds) (digits_value 10 ds) (digits_read 2147483648 ds)))

plus_parsed : (text : List ℕ) (r : Result ℤ Unread) → Parsed GivesSigned text r → get_or text 0 0 ≢ 45 → get_or text 0 0 ≡ 43 → r ≡ signed_of text
plus_parsed text r h none plus =
    let e = sign_free 45 text none in
    let s = signed_text 43 text plus (omega arith) in
    let ds = drop 1 text in
    agrees GivesSigned text (pos (digits_value 10 ds)) (λ q g. parse_signed_plus own w32 text q g.0 plus) (λ p. signed_utf8 text (omega arith) p.0)
    r (signed_of text) h (rw (e, s) (reads_as _ pos (digits_of 2147483647 ds) (digits_value 10 ds) (below ds)))

plain_parsed : (text : List ℕ) (r : Result ℤ Unread) → Parsed GivesSigned text r → get_or text 0 0 ≢ 45 → get_or text 0 0 ≢ 43 → r ≡ signed_of text
plain_parsed text r h none other =
    let e = sign_free 45 text none in
    let s = sign_free 43 text other in
    agrees GivesSigned text (pos (digits_value 10 text)) (λ q g. parse_signed_plain own w32 text q g.0 other none) (λ p. IsUtf8-from_ascii text (digits_ascii text p.0))
    r (signed_of text) h (rw (e, s) (reads_as _ pos (digits_of 2147483647 text) (digits_value 10 text) (below text)))

pub signed_parsed : (text : List ℕ) (r : Result ℤ Unread) → Parsed GivesSigned text r → r ≡ signed_of text
signed_parsed text r h = ⊎_elim
    (λ minus. minus_parsed text r h minus)
    (λ none. ⊎_elim (λ plus. plus_parsed text r h none plus) (λ other. plain_parsed text r h none other) (cases_eq (get_or text 0 0) 43))
    (cases_eq (get_or text 0 0) 45)
