-- The nine calls: what each answers, what the book is afterwards, and what the caller's buffer holds then.
use Rattle.std.specs.Prelude.{ℕ, Bool, true, false, ◌&&◌, List, [], ◌∷◌, length, Ok, Err, Result, ◌==◌}
use Rattle.ring.specs.declared.refusal.Refusal.{Refusal}
use Rattle.packing.specs.Digits.{packed}
use Rattle.keying.specs.declared.key.Key.{Key}
use Rattle.custody.specs.declared.call.Call.{Call}
use Rattle.custody.specs.declared.call.Call.TheVariants.{Deposit, Join, Trim, Clear, Open, HandOut, Publish, Tell, Alike}
use Rattle.custody.specs.declared.call.Answer.{Answer}
use Rattle.custody.specs.declared.call.Answer.TheVariants.{Done, Told as Holds, Likeness}
use Rattle.keying.specs.Keys.{h_of}
use Rattle.keying.specs.Told.{Told}
use Rattle.places.specs.Books.{Line, Book}
use Rattle.custody.specs.declared.holding.Holding.{Holding}
use Rattle.places.specs.Replies.{Reply, written}
use Rattle.places.specs.Changes.{put, emptied}
use Rattle.custody.specs.Checks.{deposit, join, trim, held, opened, open_reply, hand_out, publish, both_held}

-- whether two messages are the same, byte by byte
abbrev pub same_bytes : List ℕ → List ℕ → Bool
same_bytes [] [] = true
same_bytes [] (y ∷ ys) = false
same_bytes (x ∷ xs) [] = false
same_bytes (x ∷ xs) (y ∷ ys) = x == y && same_bytes xs ys

-- an obeyed call that answers nothing
abbrev pub done : {X : Type 0} → Reply X → Reply Answer
done (Ok x) = Ok Done
done (Err e) = Err e

-- what tell answers of a line
abbrev pub holding : Result Line Refusal → Result Holding Refusal
holding (Ok a) = Ok (record { width = a.width; allowance = a.allowance })
holding (Err e) = Err e

abbrev pub told_of : Reply Holding → Reply Answer
told_of (Ok a) = Ok (Holds a)
told_of (Err e) = Err e

-- alike: both places open to the same bits
abbrev pub likeness_reply : Key → Reply (Line × Line) → Reply Bool
likeness_reply key (Ok p) = Ok (same_bytes (opened key p.0) (opened key p.1))
likeness_reply key (Err e) = Err e

abbrev pub likeness : Reply Bool → Reply Answer
likeness (Ok b) = Ok (Likeness b)
likeness (Err e) = Err e

-- the answer to a call with a buffer of some size
abbrev pub answer : Key → Told → Book → Call → ℕ → Reply Answer
answer key told book (Deposit place width noise message) size = done (deposit key told book place width noise.now message.now)
answer key told book (Join first second) size = done (join key told book first second)
answer key told book (Trim place) size = done (trim key told book place)
answer key told book (Clear place) size = done (held key told book place)
answer key told book (Open place) size = done (open_reply key told book place size)
answer key told book (HandOut place) size = done (hand_out key told book place size)
answer key told book Publish size = done (publish key told size)
answer key told book (Tell place) size = told_of (holding (held key told book place))
answer key told book (Alike first second) size = likeness (likeness_reply key (both_held key told book first second))

-- the book after a call; a declined call leaves it
abbrev pub after : Key → Told → Book → Call → Book
after key told book (Deposit place width noise message) = put book place (deposit key told book place width noise.now message.now)
after key told book (Join first second) =
    let reply = join key told book first second in
    emptied (put book first reply) second reply
after key told book (Trim place) = put book place (trim key told book place)
after key told book (Clear place) = emptied book place (held key told book place)
after key told book (Open place) = book
after key told book (HandOut place) = book
after key told book Publish = book
after key told book (Tell place) = book
after key told book (Alike first second) = book

-- the caller's buffer after a call
abbrev pub buffer_after : Key → Told → Book → Call → List ℕ → List ℕ
buffer_after key told book (Deposit place width noise message) buffer = buffer
buffer_after key told book (Join first second) buffer = buffer
buffer_after key told book (Trim place) buffer = buffer
buffer_after key told book (Clear place) buffer = buffer
buffer_after key told book (Open place) buffer = written (open_reply key told book place (length buffer)) (opened key) buffer
buffer_after key told book (HandOut place) buffer = written (hand_out key told book place (length buffer)) (λ a. packed a.width a.coefficients) buffer
buffer_after key told book Publish buffer = written (publish key told (length buffer)) (λ _. packed 12 (h_of key)) buffer
buffer_after key told book (Tell place) buffer = buffer
buffer_after key told book (Alike first second) buffer = buffer
