-- A row that is written is read as it was.
use Rattle.std.proofs.Common.{◌≡◌, ℕ, zero, suc, ◌+◌, ◌%◌, ◌^◌, ◌<◌, ◌≤◌, Bool, true, false, cond, eqb, ltb, List, [], ◌∷◌, ◌++◌, map, length, replicate, ℤ, pos, Ok, decimal, refl, ap, ◌∙◌, append_assoc, append-nil, arith, length-append, ltb-true, ne_eqb}
use Rattle.std.proofs.lemmas.Fmt.{decimal_by_steps}
use Rattle.std.proofs.lemmas.List.{set_at}
use Rattle.std.proofs.lemmas.Bool.{and_parts, lt-ltb, le-ltb}
use Rattle.std.specs.Str.{bytes_eq}
use Rattle.ring.specs.Engines.{all_below}
use Rattle.reading.specs.Coefficients.{natural}
use Rattle.reading.specs.Cuts.{cuts, parts_of}
use Rattle.reading.specs.Rows.{comma, colon, slash, term_of, terms_of, body_of, each, row_by}
use Rattle.reading.proofs.Rereading.{numbers_return}
use Rattle.script.specs.Written.{term_text, terms, listed, row_text}
use Rattle.script.proofs.Parting.{Lacks, lacks_append, lacks_decimal, split_lacking, split_cut, parts_lacking, parts_cut}

-- a text begins with a digit, or with what comes after digits
abbrev Begun : List ℕ → Type 0
Begun [] = ⊥
Begun (byte ∷ text) = 48 ≤ byte

begun_append : (xs ys : List ℕ) → Begun xs → Begun (xs ++ ys)
begun_append [] ys begun = absurd begun
begun_append (x ∷ xs) ys begun = begun

begun_decimal : (n : ℕ) → n < 2 ^ 64 → Begun (decimal n)
begun_decimal n small =
    decimal_by_steps (λ _ text. Begun text) (λ d low. omega arith) (λ m text large begun. begun_append text ((48 + m % 10) ∷ []) begun) n small

no_mark : (text : List ℕ) (mark : ℕ) → Begun text → mark < 48 → bytes_eq text (mark ∷ []) ≡ false
no_mark [] mark begun low = absurd begun
no_mark (byte ∷ text) mark begun low = rw (ne_eqb byte mark (λ e. omega arith))

-- a term has no separator of terms or lengths in it, and is no mark
pub record Sound (term : List ℕ) : Type 0 where
  pub no_comma : Lacks (cuts comma) term
  pub no_slash : Lacks (cuts slash) term
  pub begun : Begun term

term_sound : (place value : ℕ) → place < 2 ^ 64 → value < 2 ^ 64 → Sound (term_text place value)
term_sound place value small low = record {
  no_comma = lacks_append (cuts comma) (decimal place) (58 ∷ decimal value) (lacks_decimal (cuts comma) other_comma place small) (refl, lacks_decimal (cuts comma) other_comma value low);
  no_slash = lacks_append (cuts slash) (decimal place) (58 ∷ decimal value) (lacks_decimal (cuts slash) other_slash place small) (refl, lacks_decimal (cuts slash) other_slash value low);
  begun = begun_append (decimal place) (58 ∷ decimal value) (begun_decimal place small);
}
  where
    other_comma : (d : ℕ) → d < 10 → cuts comma (48 + d) ≡ false
    other_comma d low = ne_eqb (48 + d) 44 (λ e. omega arith)

    other_slash : (d : ℕ) → d < 10 → cuts slash (48 + d) ≡ false
    other_slash d low = ne_eqb (48 + d) 47 (λ e. omega arith)

abbrev AllSound : List (List ℕ) → Type 0
AllSound [] = Unit {0}
AllSound (term ∷ more) = Sound term × AllSound more

terms_sound : (place : ℕ) (row : List ℕ) → place + length row ≤ 4096 → all_below 65536 row ≡ true → AllSound (terms place row)
unfolding terms
terms_sound place [] short below = tt
terms_sound place (value ∷ row) short below =
    let p = and_parts (ltb value 65536) (all_below 65536 row) below in
    let low : value < 65536 = ltb-true value 65536 p.0 in
    let more = terms_sound (place + 1) row (omega arith) p.1 in
    elim (eqb value 0) as (λ b. AllSound (cond b (terms (place + 1) row) (term_text place value ∷ terms (place + 1) row)))
    [ true ↦ more | false ↦ (term_sound place value (omega arith) (omega arith), more) ]

-- the text has no slash, so no length
listed_no_slash : (first : Bool) (ts : List (List ℕ)) → AllSound ts → Lacks (cuts slash) (listed first ts)
unfolding listed
listed_no_slash true [] sound = (refl, tt)
listed_no_slash false [] sound = tt
listed_no_slash true (term ∷ more) sound = lacks_append (cuts slash) term (listed false more) sound.0.no_slash (listed_no_slash false more sound.1)
listed_no_slash false (term ∷ more) sound = (refl, lacks_append (cuts slash) term (listed false more) sound.0.no_slash (listed_no_slash false more sound.1))

-- its parts are the terms
parts_listed : (term : List ℕ) (more : List (List ℕ)) → Sound term → AllSound more → parts_of (cuts comma) (term ++ listed false more) ≡ term ∷ more
unfolding listed
parts_listed term [] sound all = rw append-nil (parts_lacking (cuts comma) term sound.no_comma)
parts_listed term (next ∷ more) sound all =
    parts_cut (cuts comma) term 44 (next ++ listed false more) sound.no_comma refl ∙ ap (λ ts. term ∷ ts) (parts_listed next more all.0 all.1)

-- a term that is read writes its value at its place
term_returns : (next : ℕ) (front rest : List ℤ) (value : ℕ) → length front < 2 ^ 64 → value < 2 ^ 31
    → term_of next (front ++ pos 0 ∷ rest) (term_text (length front) value) ≡ Ok (next, front ++ pos value ∷ rest)
term_returns next front rest value short low =
    let place = length front in
    let inside : place < length (front ++ pos 0 ∷ rest) = omega (arith, length-append front (pos 0 ∷ rest)) in
    let cut = split_cut (cuts colon) (decimal place) 58 (decimal value) (lacks_decimal (cuts colon) other place short) refl in
    rw (
      cut,
      numbers_return.signed value low,
      no_mark (decimal place) 42 (begun_decimal place short) (omega arith),
      numbers_return.number place short,
      lt-ltb place (length (front ++ pos 0 ∷ rest)) inside,
      set_at front (pos 0) rest (pos value) place refl,
    )
  where
    other : (d : ℕ) → d < 10 → cuts colon (48 + d) ≡ false
    other d low = ne_eqb (48 + d) 58 (λ e. omega arith)

-- a value after those that stand already
one_further : (next : ℕ) (front : List ℤ) (value : ℤ) (row : List ℕ)
    → terms_of next ((front ++ value ∷ []) ++ replicate (length row) (pos 0)) (terms (length (front ++ value ∷ [])) row) ≡ Ok ((front ++ value ∷ []) ++ map pos row)
    → terms_of next (front ++ value ∷ replicate (length row) (pos 0)) (terms (length front + 1) row) ≡ Ok (front ++ value ∷ map pos row)
one_further next front value row e =
    let long : length (front ++ value ∷ []) ≡ length front + 1 = length-append front (value ∷ []) in
    rw (append_assoc front (value ∷ []) (replicate (length row) (pos 0)), append_assoc front (value ∷ []) (map pos row), long) at e

-- terms that are read write the values after those that stand already
terms_return : (next : ℕ) (front : List ℤ) (row : List ℕ) → length front + length row ≤ 4096 → all_below 65536 row ≡ true
    → terms_of next (front ++ replicate (length row) (pos 0)) (terms (length front) row) ≡ Ok (front ++ map pos row)
unfolding terms
terms_return next front [] short below = refl
terms_return next front (zero ∷ row) short below =
    let long = length-append front (pos 0 ∷ []) in
    one_further next front (pos 0) row (terms_return next (front ++ pos 0 ∷ []) row (omega arith) (and_parts true (all_below 65536 row) below).1)
terms_return next front (suc value ∷ row) short below =
    let p = and_parts (ltb (suc value) 65536) (all_below 65536 row) below in
    let low : suc value < 65536 = ltb-true (suc value) 65536 p.0 in
    let long = length-append front (pos (suc value) ∷ []) in
    rw (ne_eqb (suc value) 0 (λ e. omega arith), term_returns next front (replicate (length row) (pos 0)) (suc value) (omega arith) (omega arith))
    (one_further next front (pos (suc value)) row (terms_return next (front ++ pos (suc value) ∷ []) row (omega arith) p.1))

each_returns : (row : List ℕ) → all_below 65536 row ≡ true → each natural (map pos row) ≡ Ok row
unfolding each
each_returns [] below = refl
each_returns (value ∷ row) below =
    let p = and_parts (ltb value 65536) (all_below 65536 row) below in
    rw (p.0, each_returns row p.1)

body_returns : (n : ℕ) (ts : List (List ℕ)) (row : List ℤ) → n ≤ 4096 → AllSound ts → terms_of 0 (replicate n (pos 0)) ts ≡ Ok row → body_of n (listed true ts) ≡ Ok row
unfolding listed
body_returns n [] row short sound e = rw (le-ltb 4096 n short) e
body_returns n (term ∷ more) row short sound e =
    rw (
      le-ltb 4096 n short,
      no_mark (term ++ listed false more) 45 (begun_append term (listed false more) sound.0.begun) (omega arith),
      parts_listed term more sound.0 sound.1,
    ) e

pub rows_return : (row : List ℕ) → all_below 65536 row ≡ true → length row ≤ 4096 → row_by natural (length row) (row_text row) ≡ Ok row
rows_return row below short =
    let sound = terms_sound 0 row (omega arith) below in
    let read = terms_return 0 [] row (omega arith) below in
    rw (
      split_lacking (cuts slash) (row_text row) (listed_no_slash true (terms 0 row) sound),
      body_returns (length row) (terms 0 row) (map pos row) short sound read,
    ) (each_returns row below)
