-- What is so of a reply, by its cases: one fact of the line where a call is obeyed, another of the refusal where it is declined.
use Rattle.std.proofs.Common.{◌≡◌, ℕ, ◌/◌, ◌<◌, ◌≤◌, Bool, true, false, cond, not, ◌&&◌, eqb, ltb, leb, List, length, ℤ, Some, None, Ok, Err, Option, refl, MatchResult}
use Rattle.std.specs.Option.{ok_or}
use Rattle.std.proofs.lemmas.Bool.{and_parts, eqb-true, leb-true, ltb-true, ltb-false}
use Rattle.ring.specs.Refusals.{number_of}
use Rattle.ring.specs.declared.refusal.Refusal.{Refusal}
use Rattle.ring.specs.declared.refusal.Refusal.TheVariants.{Length, Noise, Unkeyed, Place, Taken, Empty, Same, Unequal, Width}
use Rattle.wrapping.specs.Secrets.{all_small}
use Rattle.keying.specs.declared.key.Key.{Key}
use Rattle.keying.specs.Told.{Told, ready}
use Rattle.places.specs.Books.{Line, Book, at}
use Rattle.places.specs.Replies.{Reply, then}
use Rattle.places.specs.Lines.{quiet, deposited, together, shortened}
use Rattle.places.specs.Checks.{placed, found, free, deposit_width, vacant, join_places}
use Rattle.custody.specs.Checks.{deposit, join, trim}

-- nothing is asked
abbrev pub Any : {X : Type 0} → X → Type 0
Any x = Unit {0}

-- a refusal other than that of too much noise
abbrev pub mild : Refusal → Bool
mild e = not (eqb (number_of e) 12)

-- what a deposit's arguments meet once they are looked at
pub record Fits (n : ℕ) (book : Book) (place w : ℕ) (r : List ℤ) (message : List ℕ) : Type 0 where
  pub inside : place ≤ 7
  pub vacancy : at book place ≡ None
  pub low : 9 ≤ w
  pub high : w ≤ 11
  pub r_long : length r ≡ n
  pub message_long : length message ≡ n / 16
  pub r_small : all_small r ≡ true

-- Q is so of each mild refusal
module _ (Q : Refusal → Type 0) (q : (e : Refusal) → mild e ≡ true → Q e) where
  pub tested : {X : Type 0} (P : X → Type 0) (b : Bool) (x : Reply X) (e : Refusal) → mild e ≡ true → (b ≡ true → MatchResult x P Q) → MatchResult (cond b x (Err e)) P Q
  tested P true x e m h = h refl
  tested P false x e m h = q e m

  pub tested_not : {X : Type 0} (P : X → Type 0) (b : Bool) (x : Reply X) (e : Refusal) → mild e ≡ true → (b ≡ false → MatchResult x P Q) → MatchResult (cond b (Err e) x) P Q
  tested_not P true x e m h = q e m
  tested_not P false x e m h = h refl

  pub chained : {X Y : Type 0} (P : Y → Type 0) (x : Reply X) (rest : X → Reply Y) → MatchResult x (λ v. MatchResult (rest v) P Q) Q → MatchResult (then x rest) P Q
  chained P (Ok v) rest h = h
  chained P (Err e) rest h = h

  pub freed : {X : Type 0} (P : X → Type 0) (o : Option Line) (rest : Reply X) → (o ≡ None → MatchResult rest P Q) → MatchResult (free o rest) P Q
  freed P None rest h = h refl
  freed P (Some line) rest h = q Taken refl

  taken_out : (P : Line → Type 0) (o : Option Line) → ((line : Line) → o ≡ Some line → P line) → MatchResult (ok_or o Empty) P Q
  taken_out P None h = q Empty refl
  taken_out P (Some line) h = h line refl

  pub found_cases : (P : Line → Type 0) (book : Book) (place : ℕ) → ((line : Line) → place ≤ 7 → at book place ≡ Some line → P line) → MatchResult (found book place) P Q
  found_cases P book place h =
      tested_not P (ltb 7 place) (ok_or (at book place) Empty) Place refl (λ b.
      taken_out P (at book place) (λ line e. h line (ltb-false 7 place b) e))

  pub vacant_cases : (P : ℕ → Type 0) (n : ℕ) (book : Book) (place w : ℕ) (r : List ℤ) (message : List ℕ) → (Fits n book place w r message → P w) → MatchResult (vacant n book place w r message) P Q
  vacant_cases P n book place w r message h =
      tested_not P (ltb 7 place) (free (at book place) widened) Place refl (λ inside.
      freed P (at book place) widened (λ vacancy.
      chained P (deposit_width w) (λ _. sized)
      (tested (λ _. MatchResult sized P Q) (leb 9 w && leb w 11) (Ok w) Width refl (λ width.
      tested P (eqb (length r) n && eqb (length message) (n / 16)) small Length refl (λ long.
      tested P (all_small r) (Ok w) Noise refl (λ r_small. h (record {
        inside = ltb-false 7 place inside;
        vacancy = vacancy;
        low = leb-true 9 w (and_parts (leb 9 w) (leb w 11) width).0;
        high = leb-true w 11 (and_parts (leb 9 w) (leb w 11) width).1;
        r_long = eqb-true (length r) n (and_parts (eqb (length r) n) (eqb (length message) (n / 16)) long).0;
        message_long = eqb-true (length message) (n / 16) (and_parts (eqb (length r) n) (eqb (length message) (n / 16)) long).1;
        r_small = r_small;
      })))))))
    where
      small : Reply ℕ
      small = cond (all_small r) (Ok w) (Err Noise)

      sized : Reply ℕ
      sized = cond (eqb (length r) n && eqb (length message) (n / 16)) small (Err Length)

      widened : Reply ℕ
      widened = then (deposit_width w) (λ _. sized)

  pub deposit_cases : (P : Line → Type 0) (key : Key) (told : Told) (book : Book) (place w : ℕ) (r : List ℤ) (message : List ℕ) → (ready key.degree told ≡ true → Fits key.degree book place w r message → MatchResult (quiet (deposited key w r message)) P Q) → MatchResult (deposit key told book place w r message) P Q
  deposit_cases P key told book place w r message h =
      tested P (ready key.degree told) (then (vacant key.degree book place w r message) (λ _. quiet (deposited key w r message))) Unkeyed refl (λ k.
      chained P (vacant key.degree book place w r message) (λ _. quiet (deposited key w r message))
      (vacant_cases (λ _. MatchResult (quiet (deposited key w r message)) P Q) key.degree book place w r message (h k)))

  pub join_cases : (P : Line → Type 0) (key : Key) (told : Told) (book : Book) (first second : ℕ) → (ready key.degree told ≡ true → first ≤ 7 → (a b : Line) → at book first ≡ Some a → at book second ≡ Some b → a.width ≡ b.width → MatchResult (quiet (together a b)) P Q) → MatchResult (join key told book first second) P Q
  join_cases P key told book first second h =
      tested P (ready key.degree told) (join_places book first second) Unkeyed refl (λ k.
      tested_not P (ltb 7 first) (placed second (cond (eqb first second) (Err Same) both)) Place refl (λ _.
      tested_not P (ltb 7 second) (cond (eqb first second) (Err Same) both) Place refl (λ _.
      tested_not P (eqb first second) both Same refl (λ _.
      chained P (found book first) with_second (found_cases (λ a. MatchResult (with_second a) P Q) book first (λ a inside at_first.
      chained P (found book second) (sum a) (found_cases (λ b. MatchResult (sum a b) P Q) book second (λ b _ at_second.
      tested P (eqb a.width b.width) (quiet (together a b)) Unequal refl (λ w.
      h k inside a b at_first at_second (eqb-true a.width b.width w))))))))))
    where
      sum : Line → Line → Reply Line
      sum a b = cond (eqb a.width b.width) (quiet (together a b)) (Err Unequal)

      with_second : Line → Reply Line
      with_second a = then (found book second) (sum a)

      both : Reply Line
      both = then (found book first) with_second

  pub trim_cases : (P : Line → Type 0) (key : Key) (told : Told) (book : Book) (place : ℕ) → (ready key.degree told ≡ true → place ≤ 7 → (a : Line) → at book place ≡ Some a → 8 < a.width → MatchResult (quiet (shortened key a)) P Q) → MatchResult (trim key told book place) P Q
  trim_cases P key told book place h =
      tested P (ready key.degree told) (then (found book place) less) Unkeyed refl (λ k.
      chained P (found book place) less (found_cases (λ a. MatchResult (less a) P Q) book place (λ a inside there.
      tested P (ltb 8 a.width) (quiet (shortened key a)) Width refl (λ w. h k inside a there (ltb-true 8 a.width w)))))
    where
      less : Line → Reply Line
      less a = cond (ltb 8 a.width) (quiet (shortened key a)) (Err Width)
