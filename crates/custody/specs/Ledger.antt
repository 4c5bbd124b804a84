-- The ledger of a station: kept from its key, from what its engines tell and from its calls, and from nothing else.
use Rattle.std.specs.Prelude.{ℕ, List, [], ◌∷◌, replicate, Ok, Err, slice_index_or, slice_set}
use Rattle.wrapping.specs.Joins.{xored}
use Rattle.keying.specs.declared.key.Key.{Key}
use Rattle.custody.specs.declared.call.Call.{Call}
use Rattle.custody.specs.declared.call.Call.TheVariants.{Deposit, Join, Trim, Clear, Open, HandOut, Publish, Tell, Alike}
use Rattle.keying.specs.Told.{Told}
use Rattle.places.specs.Books.{Line, Book, empty_book}
use Rattle.places.specs.Replies.{Reply}
use Rattle.custody.specs.Checks.{deposit, join}
use Rattle.custody.specs.Calls.{after}

-- the lines, and for each line its due bits, as a message: the exclusive-or of what was deposited and joined there
pub record Ledger : Type 0 where
  pub lines : Book
  pub dues : List (List ℕ)

-- the due bits of a place
abbrev pub due : Ledger → ℕ → List ℕ
due ledger place = slice_index_or ledger.dues place []

-- due bits change where the call is obeyed
abbrev pub owed : List (List ℕ) → ℕ → Reply Line → List ℕ → List (List ℕ)
owed dues place (Ok line) bits = slice_set dues place bits
owed dues place (Err e) bits = dues

abbrev pub dues_after : Key → Told → Ledger → Call → List (List ℕ)
dues_after key told ledger (Deposit place width noise message) =
    owed ledger.dues place (deposit key told ledger.lines place width noise.now message.now) message.now
dues_after key told ledger (Join first second) =
    owed ledger.dues first (join key told ledger.lines first second) (xored (due ledger first) (due ledger second))
dues_after key told ledger (Trim place) = ledger.dues
dues_after key told ledger (Clear place) = ledger.dues
dues_after key told ledger (Open place) = ledger.dues
dues_after key told ledger (HandOut place) = ledger.dues
dues_after key told ledger Publish = ledger.dues
dues_after key told ledger (Tell place) = ledger.dues
dues_after key told ledger (Alike first second) = ledger.dues

-- one call more
abbrev pub entered : Key → Told → Ledger → Call → Ledger
entered key told ledger call = record { lines = after key told ledger.lines call; dues = dues_after key told ledger call }

-- a list of calls more
unfoldable pub entered_all : Key → Told → Ledger → List Call → Ledger
entered_all key told ledger [] = ledger
entered_all key told ledger (call ∷ calls) = entered_all key told (entered key told ledger call) calls

-- all lines start empty
abbrev pub blank : Ledger
blank = record { lines = empty_book; dues = replicate 8 [] }

-- the ledger after a list of calls
abbrev pub ledger_of : Key → Told → List Call → Ledger
ledger_of key told calls = entered_all key told blank calls

-- the book after a list of calls, from any book
unfoldable pub all_after : Key → Told → Book → List Call → Book
all_after key told book [] = book
all_after key told book (call ∷ calls) = all_after key told (after key told book call) calls
