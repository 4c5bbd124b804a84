-- A list of calls carried out over a book.
use Rattle.std.proofs.Common.{◌≡◌, ℕ, List, [], ◌∷◌, ◌++◌, map, length, Some, sym, refl, ap, ◌∙◌, ap₂}
use mathlib.Core.List.{map-append}
use Rattle.keying.specs.declared.key.Key.{Key}
use Rattle.custody.specs.declared.call.Call.{Call}
use Rattle.custody.specs.declared.call.Answer.{Answer}
use Rattle.keying.specs.Told.{Told}
use Rattle.places.specs.Books.{Book, empty_book}
use Rattle.places.specs.Replies.{Reply}
use Rattle.custody.specs.Calls.{answer, after, buffer_after}
use Rattle.custody.specs.Ledger.{Ledger, all_after, blank, entered, entered_all, ledger_of}
use Rattle.custody.specs.Promise.{Asked, Replied, Kept, Upheld, given, ledger_after, replies}
use Rattle.custody.proofs.Entering.{entered_all_append}
use Rattle.custody.proofs.Keeping.{keeps, upholds}

module _ (key : Key) (told : Told) where
  pub run_lines : (ledger : Ledger) (calls : List Call) → (entered_all key told ledger calls).lines ≡ all_after key told ledger.lines calls
  unfolding all_after entered_all
  run_lines ledger [] = refl
  run_lines ledger (call ∷ calls) = run_lines (entered key told ledger call) calls

  pub run_more : (book : Book) (calls : List Call) (call : Call) → all_after key told book (calls ++ call ∷ []) ≡ after key told (all_after key told book calls) call
  unfolding all_after
  run_more book [] call = refl
  run_more book (x ∷ calls) call = run_more (after key told book x) calls call

  -- from a past that keeps the promise to that past and the calls
  pub run_keeps : (past calls : List Call) (book end : Book) → Kept key told past book → end ≡ all_after key told book calls → Kept key told (past ++ calls) end
  run_keeps past calls book end kept e =
      keeps key told (past ++ calls) end
      (e ∙ ap (λ b. all_after key told b calls) kept.matches
      ∙ sym (run_lines (ledger_of key told past) calls)
      ∙ ap (λ l. l.lines) (sym (entered_all_append key told blank past calls)))

  -- what one call more is answered
  abbrev pub reply : Book → Asked → Reply Answer × List ℕ
  reply book x = (answer key told book x.0 (length x.1), buffer_after key told book x.0 x.1)

  pub replies_append : (book : Book) (asked more : List Asked)
      → replies key told book (asked ++ more) ≡ replies key told book asked ++ replies key told (all_after key told book (map (λ y. y.0) asked)) more
  unfolding replies all_after
  replies_append book [] more = refl
  replies_append book (y ∷ asked) more = ap {B = List (Reply Answer × List ℕ)} (λ w. reply book y ∷ w) (replies_append (after key told book y.0) asked more)

  pub replies-more : (book : Book) (asked : List Asked) (x : Asked)
      → replies key told book (asked ++ x ∷ []) ≡ replies key told book asked ++ reply (all_after key told book (map (λ y. y.0) asked)) x ∷ []
  unfolding replies
  replies-more book asked x = replies_append book asked (x ∷ [])

  -- the same of what is asked after it, with the replies
  module _ (asked more : List Asked) (replied : List Replied) (book : Book) (past : Upheld key told asked replied book) where
    here : book ≡ all_after key told empty_book (map (λ y. y.0) asked)
    here = past.matches.places ∙ run_lines blank (map (λ y. y.0) asked)

    calls_append : map (λ y. y.0) (asked ++ more) ≡ map (λ y. y.0) asked ++ map (λ y. y.0) more
    calls_append = map-append (λ y. y.0) asked more

    pub run_upholds : (end : Book) (new : List Replied) → end ≡ all_after key told book (map (λ y. y.0) more) → new ≡ given (replies key told book more)
        → Upheld key told (asked ++ more) (replied ++ new) end
    run_upholds end new e r =
        upholds key told (asked ++ more) (replied ++ new) end (record {
          places = e ∙ ap (λ b. all_after key told b (map (λ y. y.0) more)) past.matches.places
              ∙ sym (run_lines (ledger_after key told asked) (map (λ y. y.0) more))
              ∙ ap (λ l. l.lines) (sym (ap (entered_all key told blank) calls_append ∙ entered_all_append key told blank (map (λ y. y.0) asked) (map (λ y. y.0) more)));
          answers = ap₂ ◌++◌ past.matches.answers (r ∙ ap (λ b. given (replies key told b more)) here)
              ∙ sym (map-append (λ p. (Some p.0, p.1)) (replies key told empty_book asked) (replies key told (all_after key told empty_book (map (λ y. y.0) asked)) more))
              ∙ ap given (sym (replies_append empty_book asked more));
        })

  -- eight empty places keep the promise before any call
  pub kept_start : (book : Book) → book ≡ empty_book → Kept key told [] book
  unfolding entered_all
  kept_start book e = keeps key told [] book e

  -- and uphold it, with no reply yet
  pub upheld_start : (book : Book) → book ≡ empty_book → Upheld key told [] [] book
  unfolding entered_all replies
  upheld_start book e = upholds key told [] [] book (record { places = e; answers = refl })
