-- A book that matches the ledger keeps the promise.
use Rattle.std.proofs.Common.{◌≡◌, ℕ, ◌-◌, ◌*◌, ◌/◌, ◌<◌, ◌≤◌, true, eqb, ltb, List, map, length, ℤ, Some, Ok, Err, sym, refl, ap, ◌∙◌, subst, arith, MatchResult}
use Rattle.std.specs.Option.{ok_or}
use Rattle.std.proofs.lemmas.Result.{MatchResult-at_err}
use Rattle.std.proofs.lemmas.Bool.{cond-true, cond-false, cond_both, eq-eqb, le-ltb, ltb-false, true≢false}
use Rattle.ring.specs.declared.refusal.Refusal.{Refusal}
use Rattle.ring.specs.declared.refusal.Refusal.TheVariants.{Length, Unkeyed, Place, Empty, TooNoisy}
use Rattle.code.specs.Widths.{radius}
use Rattle.code.specs.Messages.{message_bit}
use Rattle.code.specs.Rows.{decoded}
use Rattle.code.proofs.Greatest.{farthest-above}
use Rattle.wrapping.specs.Wraps.{measured}
use Rattle.wrapping.specs.Exact.{Exact, loudest}
use Rattle.wrapping.proofs.SecretLaws.{length-measured}
use Rattle.wrapping.proofs.WrapLaws.{wrap_fair}
use Rattle.keying.specs.declared.key.Key.{Key}
use Rattle.keying.specs.Keys.{f_of, g_of, h_of}
use Rattle.keying.specs.Told.{Told, ready}
use Rattle.places.specs.Books.{Line, Book, at}
use Rattle.places.specs.Replies.{then}
use Rattle.places.specs.Checks.{found, buffered}
use Rattle.places.specs.Lines.{deposited}
use Rattle.custody.specs.Checks.{deposit, held, opened, open_reply}
use Rattle.custody.specs.declared.call.Call.{Call}
use Rattle.custody.specs.Ledger.{Ledger, due, ledger_of}
use Rattle.custody.specs.Promise.{Asked, Replied, Near, Matches, Kept, Upheld}
use Rattle.custody.proofs.DueBits.{length-decoded, decoded_bits}
use Rattle.custody.proofs.Entering.{ledger_sound}
use Rattle.custody.proofs.Outcomes.{Any, mild, deposit_cases}
use Rattle.custody.proofs.SoundLedgers.{SoundLine, Sound, at_inside}
use Rattle.keying.proofs.TiedKeys.{f_long, tied, ready-some}

-- ---- a line
module _ (key : Key) (line : Line) (bits : List ℕ) (some : 0 < key.degree) (s : SoundLine key line bits) where
  row : List ℤ
  row = measured key.degree (f_of key) line.coefficients

  row_long : length row ≡ key.degree
  unfolding row
  row_long = length-measured key.degree (f_of key) line.coefficients some (f_long key)

  pub line_near : Near key line bits
  unfolding row
  line_near = record {
    octets = λ i h.
        let k : i < length row / 8 = omega (arith, ap (λ (m : ℕ). m / 8) row_long) in
        omega (arith, farthest-above line.width row bits i k, s.near);
    below = s.below;
  }

  pub line_bits : (i : ℕ) → message_bit (opened key line) i ≡ message_bit bits i
  unfolding row
  line_bits i =
      ap (λ (n : ℕ). message_bit (decoded line.width row n) i) (sym s.bits_long)
      ∙ decoded_bits line.width line.allowance row bits (omega (arith, s.bits_long, row_long)) s.near s.below i

-- ---- replies
pub held_line : (key : Key) (told : Told) (book : Book) (place : ℕ) (line : Line) → ready key.degree told ≡ true → place ≤ 7 → at book place ≡ Some line → held key told book place ≡ Ok line
held_line key told book place line fit inside e =
    cond-true (ready key.degree told) (found book place) (Err Unkeyed) fit
    ∙ cond-false (ltb 7 place) (Err Place) (ok_or (at book place) Empty) (le-ltb 7 place inside)
    ∙ ap (λ o. ok_or o Empty) e

open_line : (key : Key) (told : Told) (book : Book) (place : ℕ) (line : Line) → held key told book place ≡ Ok line → open_reply key told book place (key.degree / 16) ≡ Ok line
open_line key told book place line h =
    ap (λ r. then r (λ a. buffered (key.degree / 16) (key.degree / 16) a)) h
    ∙ cond-true (eqb (key.degree / 16) (key.degree / 16)) (Ok line) (Err Length) (eq-eqb (key.degree / 16) (key.degree / 16) refl)

-- ---- deposits with a short exact error
pub deposit-fair : (key : Key) (told : Told) (book : Book) (place w : ℕ) (r : List ℤ) (message : List ℕ) (e : List ℤ) → Exact key.degree w (f_of key) (g_of key) (h_of key) r e → loudest e ≤ (radius w - 1) * (radius w - 1) → deposit key told book place w r message ≡ Err TooNoisy → ⊥
deposit-fair key told book place w r message e exact short loud =
    true≢false (sym (MatchResult-at_err Any Mild TooNoisy loud
    (deposit_cases Mild (λ _ m. m) Any key told book place w r message (λ fit args.
    let below = wrap_fair key.degree w (f_of key) (g_of key) (h_of key) r e message (omega (arith, args.low)) (tied key (ready-some key.degree told fit)) args.r_long exact short in
    cond_both (ltb new.allowance (radius w)) (Ok new) (Err TooNoisy) (λ x. MatchResult x Any Mild) (λ _. tt) (λ b. absurd (omega (arith, ltb-false new.allowance (radius w) b, below)))))))
  where
    new : Line
    new = deposited key w r message

    Mild : Refusal → Type 0
    Mild x = mild x ≡ true

-- ---- the promise
module _ (key : Key) (told : Told) (calls : List Call) where
  ledger : Ledger
  ledger = ledger_of key told calls

  sound : Sound key told ledger
  unfolding ledger
  sound = ledger_sound key told calls

  pub ledger_keeps : Kept key told calls (ledger_of key told calls).lines
  unfolding ledger
  ledger_keeps = record {
    matches = refl;
    near = λ place line e. line_near key line (due ledger place) (some place line e) (sound.each place line e);
    opens = λ place line e. record {
      obeyed = open_line key told ledger.lines place line (held_line key told ledger.lines place line (sound.fit place line e) (omega (arith, at_inside ledger.lines place line e, sound.lines_long)) e);
      long = length-decoded line.width (measured key.degree (f_of key) line.coefficients) (key.degree / 16);
      bits_due = line_bits key line (due ledger place) (some place line e) (sound.each place line e);
    };
    fair = λ place w r message e exact short. deposit-fair key told ledger.lines place w r message e exact short;
  }
    where
      some : (place : ℕ) (line : Line) → at ledger.lines place ≡ Some line → 0 < key.degree
      some place line e = ready-some key.degree told (sound.fit place line e)

  pub keeps : (book : Book) → book ≡ (ledger_of key told calls).lines → Kept key told calls book
  keeps book e = subst (Kept key told calls) (sym e) ledger_keeps

-- the same with the replies
pub upholds : (key : Key) (told : Told) (asked : List Asked) (replied : List Replied) (book : Book) → Matches key told asked replied book → Upheld key told asked replied book
upholds key told asked replied book m = record { matches = m; kept = keeps key told (map (λ x. x.0) asked) book m.places }
