-- Sound ledgers: every line is near its due words. Places may be filled with sound lines, and emptied.
use Rattle.std.proofs.Common.{◌≡◌, ℕ, zero, suc, ◌*◌, ◌/◌, ◌<◌, ◌≤◌, true, List, [], ◌∷◌, length, get_or, set, replicate, Some, None, Ok, Err, sym, refl, ap, ◌∙◌, subst, inl, inr, arith, MatchResult}
use Rattle.std.proofs.lemmas.List.{get_or_past, get_or-set_same, get_or-set_other, length-set, set-get_or}
use Rattle.std.proofs.lemmas.Bool.{cases_eq, cases_lt}
use Rattle.code.specs.Widths.{radius}
use Rattle.code.specs.Rows.{farthest}
use Rattle.wrapping.specs.Wraps.{measured}
use Rattle.keying.specs.declared.key.Key.{Key}
use Rattle.keying.specs.Keys.{f_of}
use Rattle.keying.specs.Told.{Told, ready}
use Rattle.places.specs.Books.{Line, Book, at}
use Rattle.places.specs.Replies.{Reply}
use Rattle.places.specs.Changes.{put, emptied}
use Rattle.custody.specs.Ledger.{Ledger, due, owed, blank}
use Rattle.custody.proofs.Outcomes.{Any}

-- a line with its due bits
pub record SoundLine (key : Key) (line : Line) (bits : List ℕ) : Type 0 where
  pub low : 8 ≤ line.width
  pub high : line.width ≤ 11
  pub long : length line.coefficients ≡ key.degree
  pub bits_long : length bits ≡ key.degree / 16
  pub below : line.allowance < radius line.width
  pub near : farthest line.width (measured key.degree (f_of key) line.coefficients) bits ≤ line.allowance * line.allowance

pub record Sound (key : Key) (told : Told) (ledger : Ledger) : Type 0 where
  pub lines_long : length ledger.lines ≡ 8
  pub dues-long : length ledger.dues ≡ 8
  -- where a place is filled the engines fit the key
  pub fit : (place : ℕ) (line : Line) → at ledger.lines place ≡ Some line → ready key.degree told ≡ true
  pub each : (place : ℕ) (line : Line) → at ledger.lines place ≡ Some line → SoundLine key line (due ledger place)

-- what a call may enter at a place
pub record Entry (key : Key) (told : Told) (place : ℕ) (bits : List ℕ) (line : Line) : Type 0 where
  pub inside : place ≤ 7
  pub fit : ready key.degree told ≡ true
  pub sound : SoundLine key line bits

-- ---- lists of options
some_injective : {x y : Line} → Some x ≡ Some y → x ≡ y
some_injective e = cc

none_some : {x : Line} → None ≡ Some x → ⊥
none_some e = let z : ◌≡◌ {A = ℕ} 0 1 = cc in omega arith

slice_index_or-same : {X : Type 0} (n i : ℕ) (a : X) → get_or (replicate n a) i a ≡ a
slice_index_or-same zero i a = refl
slice_index_or-same (suc n) zero a = refl
slice_index_or-same (suc n) (suc i) a = slice_index_or-same n i a

at-emptied : (book : Book) (place : ℕ) → at (set book place None) place ≡ None
at-emptied [] place = refl
at-emptied (x ∷ book) zero = refl
at-emptied (x ∷ book) (suc place) = at-emptied book place

-- a filled place is one of those that the book has
pub at_inside : (book : Book) (place : ℕ) (line : Line) → at book place ≡ Some line → place < length book
at_inside book place line e =
    elim (cases_lt place (length book)) [ inl h ↦ h | inr h ↦ absurd (none_some (sym (get_or_past book place None h) ∙ e)) ]

-- ---- ledgers
module _ (key : Key) (told : Told) where
  pub blank_sound : Sound key told blank
  blank_sound = record {
    lines_long = refl;
    dues-long = refl;
    fit = λ place line e. absurd (none_some (sym (slice_index_or-same 8 place None) ∙ e));
    each = λ place line e. absurd (none_some (sym (slice_index_or-same 8 place None) ∙ e));
  }

  pub fill_sound : (ledger : Ledger) (place : ℕ) (line : Line) (bits : List ℕ) → Sound key told ledger → Entry key told place bits line → Sound key told (record { lines = set ledger.lines place (Some line); dues = set ledger.dues place bits })
  fill_sound ledger place line bits s entry = record {
    lines_long = length-set ledger.lines place (Some line) ∙ s.lines_long;
    dues-long = length-set ledger.dues place bits ∙ s.dues-long;
    fit = λ p l e. entry.fit;
    each = each;
  }
    where
      inside : (n : ℕ) → n ≡ 8 → place < n
      inside n l = omega (arith, entry.inside)

      each : (p : ℕ) (l : Line) → at (set ledger.lines place (Some line)) p ≡ Some l → SoundLine key l (get_or (set ledger.dues place bits) p [])
      each p l e =
          elim (cases_eq p place) [
            | inl same ↦ subst (λ (x : Line). SoundLine key x (get_or (set ledger.dues place bits) p []))
                (some_injective (sym (ap (at (set ledger.lines place (Some line))) same ∙ get_or-set_same ledger.lines place (Some line) None (inside (length ledger.lines) s.lines_long)) ∙ e))
                (subst (SoundLine key line) (sym (ap (λ (i : ℕ). get_or (set ledger.dues place bits) i []) same ∙ get_or-set_same ledger.dues place bits [] (inside (length ledger.dues) s.dues-long))) entry.sound)
            | inr other ↦ subst (SoundLine key l) (sym (get_or-set_other ledger.dues place p bits [] other))
                (s.each p l (sym (get_or-set_other ledger.lines place p (Some line) None other) ∙ e))
          ]

  pub empty_sound : (ledger : Ledger) (place : ℕ) → Sound key told ledger → Sound key told (record { lines = set ledger.lines place None; dues = ledger.dues })
  empty_sound ledger place s = record {
    lines_long = length-set ledger.lines place None ∙ s.lines_long;
    dues-long = s.dues-long;
    fit = λ p line e. s.fit p line (kept p line e);
    each = λ p line e. s.each p line (kept p line e);
  }
    where
      kept : (p : ℕ) (line : Line) → at (set ledger.lines place None) p ≡ Some line → at ledger.lines p ≡ Some line
      kept p line e =
          elim (cases_eq p place) [
            | inl same ↦ absurd (none_some (sym (ap (at (set ledger.lines place None)) same ∙ at-emptied ledger.lines place) ∙ e))
            | inr other ↦ sym (get_or-set_other ledger.lines place p None None other) ∙ e
          ]

  -- a reply whose line may be entered
  pub put_sound : (ledger : Ledger) (place : ℕ) (reply : Reply Line) (bits : List ℕ) → Sound key told ledger → MatchResult reply (Entry key told place bits) Any → Sound key told (record { lines = put ledger.lines place reply; dues = owed ledger.dues place reply bits })
  put_sound ledger place (Ok line) bits s entry = fill_sound ledger place line bits s entry
  put_sound ledger place (Err e) bits s entry = s

  pub emptied_sound : (ledger : Ledger) (place : ℕ) (reply : Reply Line) → Sound key told ledger → Sound key told (record { lines = emptied ledger.lines place reply; dues = ledger.dues })
  emptied_sound ledger place (Ok line) s = empty_sound ledger place s
  emptied_sound ledger place (Err e) s = s

-- what is owed anyway changes nothing
pub owed_same : (dues : List (List ℕ)) (place : ℕ) (reply : Reply Line) → owed dues place reply (get_or dues place []) ≡ dues
owed_same dues place (Ok line) = set-get_or dues place []
owed_same dues place (Err e) = refl
