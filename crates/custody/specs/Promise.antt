-- What is promised of a station after any list of calls.
use Rattle.std.specs.Prelude.{◌≡◌, ℕ, ◌-◌, ◌*◌, ◌/◌, ◌<◌, ◌≤◌, List, [], ◌∷◌, map, length, ℤ, Some, Ok, Err, Option, ◌≢◌}
use Rattle.ring.specs.declared.refusal.Refusal.TheVariants.{TooNoisy}
use Rattle.code.specs.Widths.{radius}
use Rattle.code.specs.Distances.{distance}
use Rattle.code.specs.Messages.{message_bit, number}
use Rattle.code.specs.Rows.{octet}
use Rattle.wrapping.specs.Wraps.{measured}
use Rattle.wrapping.specs.Exact.{Exact, loudest}
use Rattle.keying.specs.declared.key.Key.{Key}
use Rattle.custody.specs.declared.call.Call.{Call}
use Rattle.custody.specs.declared.call.Answer.{Answer}
use Rattle.keying.specs.Keys.{f_of, g_of, h_of}
use Rattle.keying.specs.Told.{Told}
use Rattle.places.specs.Books.{Line, Book, at, empty_book}
use Rattle.places.specs.Replies.{Reply}
use Rattle.custody.specs.Checks.{deposit, opened, open_reply}
use Rattle.custody.specs.Calls.{answer, after, buffer_after}
use Rattle.custody.specs.Ledger.{Ledger, due, ledger_of}

-- in each octet the squared distance of c times f from the due word is at most the squared allowance,
-- and the allowance is below the radius
pub record Near (key : Key) (line : Line) (bits : List ℕ) : Type 0 where
  pub octets : (i : ℕ) → i < key.degree / 8 → distance line.width (octet (measured key.degree (f_of key) line.coefficients) i) (number bits i) ≤ line.allowance * line.allowance
  pub below : line.allowance < radius line.width

-- opening with a buffer of the right length is obeyed, and writes the due bits
pub record Opens (key : Key) (told : Told) (book : Book) (place : ℕ) (line : Line) (bits : List ℕ) : Type 0 where
  pub obeyed : open_reply key told book place (key.degree / 16) ≡ Ok line
  pub long : length (opened key line) ≡ key.degree / 16
  pub bits_due : (i : ℕ) → message_bit (opened key line) i ≡ message_bit bits i

-- the promise of a station with a key and engines that tell this, whose places hold the book, after the calls
pub record Kept (key : Key) (told : Told) (calls : List Call) (book : Book) : Type 0 where
  -- the same places are filled as in the ledger, with the same width, coefficients and allowance
  pub matches : book ≡ (ledger_of key told calls).lines
  -- every filled place is near its due words
  pub near : (place : ℕ) (line : Line) → at book place ≡ Some line → Near key line (due (ledger_of key told calls) place)
  -- every filled place opens to its due bits
  pub opens : (place : ℕ) (line : Line) → at book place ≡ Some line → Opens key told book place line (due (ledger_of key told calls) place)
  -- no deposit is declined as too noisy if its exact error has length at most the radius less one in each octet
  pub fair : (place width : ℕ) (noise : List ℤ) (message : List ℕ) (e : List ℤ)
      → Exact key.degree width (f_of key) (g_of key) (h_of key) noise e
      → loudest e ≤ (radius width - 1) * (radius width - 1)
      → deposit key told book place width noise message ≢ Err TooNoisy

-- a call and the buffer that it is handed
abbrev pub Asked : Type 0
Asked = Call × List ℕ

-- an answer and what the buffer holds then
abbrev pub Replied : Type 0
Replied = Option (Reply Answer) × List ℕ

-- every call is obeyed or declined as in the ledger, with the same number, and its buffer holds what the ledger says
unfoldable pub replies : Key → Told → Book → List Asked → List (Reply Answer × List ℕ)
replies key told lines [] = []
replies key told lines (x ∷ asked) =
    (answer key told lines x.0 (length x.1), buffer_after key told lines x.0 x.1)
    ∷ replies key told (after key told lines x.0) asked

-- answers that were given
abbrev pub given : List (Reply Answer × List ℕ) → List Replied
given rs = map (λ p. (Some p.0, p.1)) rs

-- the ledger after the calls that were asked
abbrev pub ledger_after : Key → Told → List Asked → Ledger
ledger_after key told asked = ledger_of key told (map (λ x. x.0) asked)

-- the same places are filled as in the ledger, each with the width, the coefficients and the allowance of its line;
-- and each call was obeyed or declined as in the ledger, with the same number, and its buffer holds what the ledger says
pub record Matches (key : Key) (told : Told) (asked : List Asked) (replied : List Replied) (book : Book) : Type 0 where
  pub places : book ≡ (ledger_after key told asked).lines
  pub answers : replied ≡ given (replies key told empty_book asked)

-- the promise of a station that was asked and that replied this since it was commissioned
pub record Upheld (key : Key) (told : Told) (asked : List Asked) (replied : List Replied) (book : Book) : Type 0 where
  -- the station matches its ledger, in its replies too
  pub matches : Matches key told asked replied book
  -- and it keeps the promise after these calls
  pub kept : Kept key told (map (λ x. x.0) asked) book
