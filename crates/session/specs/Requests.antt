-- What a station answers to a request of a script, and what its places show afterwards.
use Rattle.std.specs.Prelude.{ℕ, ◌*◌, ◌/◌, Bool, true, false, Some, None, Ok, Err, vec_items, Option}
use Rattle.packing.specs.Digits.{packed}
use Rattle.keying.specs.Keys.{h_of}
use Rattle.places.specs.Books.{Line, Book}
use Rattle.places.specs.Changes.{put, emptied}
use Rattle.places.specs.Replies.{Reply}
use Rattle.custody.specs.Calls.{likeness_reply}
use Rattle.custody.specs.Checks.{deposit, join, trim, held, opened, open_reply, hand_out, publish, both_held}
use Rattle.script.specs.declared.request.Request.{Request}
use Rattle.script.specs.declared.request.Request.TheVariants.{Deposit, Join, Trim, Clear, Open, HandOut, Publish, Tell, Alike}
use Rattle.session.specs.Said.{Said, refused, holds, likeness, obeyed, given, shown}
use Rattle.session.specs.Hands.{Post}
use Rattle.session.specs.Posts as plain
use Rattle.session.specs.Posts.{Plain}

-- a handing out: a buffer of no given length has the right one
abbrev pub handed : Post → ℕ → Option ℕ → Reply Line
handed p place (Some size) = hand_out p.key p.told p.book place size
handed p place None = held p.key p.told p.book place

-- how long a buffer must be to hand out a line, with engines of some degree
abbrev pub line_length : ℕ → Reply Line → ℕ
line_length n (Ok a) = n * a.width / 8
line_length n (Err e) = 0

-- how long it must be to hand out what a place holds
abbrev pub right_length : Post → ℕ → ℕ
right_length p place = line_length p.told.field_degree (held p.key p.told p.book place)

-- what is told of a line
abbrev pub told_line : Reply Line → Said
told_line (Ok a) = holds a.width a.allowance
told_line (Err e) = refused e

-- what is said of a comparison
abbrev pub compared : Reply Bool → Said
compared (Ok alike) = likeness alike
compared (Err e) = refused e

abbrev pub answered : Post → Request → Said
answered p (Deposit place width noise message) = obeyed (deposit p.key p.told p.book place width (vec_items noise) (vec_items message))
answered p (Join first second) = obeyed (join p.key p.told p.book first second)
answered p (Trim place) = obeyed (trim p.key p.told p.book place)
answered p (Clear place) = obeyed (held p.key p.told p.book place)
answered p (Open place size) = shown (open_reply p.key p.told p.book place size) (opened p.key)
answered p (HandOut place size) = shown (handed p place size) (λ a. packed a.width a.coefficients)
answered p (Publish size) = given (publish p.key p.told size) (packed 12 (h_of p.key))
answered p (Tell place) = told_line (held p.key p.told p.book place)
answered p (Alike first second) = compared (likeness_reply p.key (both_held p.key p.told p.book first second))

-- the book afterwards; a declined request leaves it
abbrev pub book_after : Post → Request → Book
book_after p (Deposit place width noise message) =
    put p.book place (deposit p.key p.told p.book place width (vec_items noise) (vec_items message))
book_after p (Join first second) =
    let reply = join p.key p.told p.book first second in
    emptied (put p.book first reply) second reply
book_after p (Trim place) = put p.book place (trim p.key p.told p.book place)
book_after p (Clear place) = emptied p.book place (held p.key p.told p.book place)
book_after p (Open place size) = p.book
book_after p (HandOut place size) = p.book
book_after p (Publish size) = p.book
book_after p (Tell place) = p.book
book_after p (Alike first second) = p.book

-- the station afterwards
abbrev pub post_after : Post → Request → Post
post_after p request = record { key = p.key; told = p.told; book = book_after p request }

-- the call that a request asks for
abbrev pub plain_request : Request → Plain
plain_request (Deposit place width noise message) = plain.deposit place width (vec_items noise) (vec_items message)
plain_request (Join first second) = plain.join first second
plain_request (Trim place) = plain.trim place
plain_request (Clear place) = plain.clear place
plain_request (Open place size) = plain.opening place
plain_request (HandOut place size) = plain.hand_out place
plain_request (Publish size) = plain.publish
plain_request (Tell place) = plain.tell place
plain_request (Alike first second) = plain.alike first second

-- whether it asks for what the buffer is to hold
abbrev pub wants_bytes : Request → Bool
wants_bytes (Deposit place width noise message) = false
wants_bytes (Join first second) = false
wants_bytes (Trim place) = false
wants_bytes (Clear place) = false
wants_bytes (Open place size) = true
wants_bytes (HandOut place size) = true
wants_bytes (Publish size) = true
wants_bytes (Tell place) = false
wants_bytes (Alike first second) = false

-- the length of the buffer that is handed over with it
abbrev pub buffer_length : Post → Request → ℕ
buffer_length p (Deposit place width noise message) = 0
buffer_length p (Join first second) = 0
buffer_length p (Trim place) = 0
buffer_length p (Clear place) = 0
buffer_length p (Open place size) = size
buffer_length p (HandOut place (Some size)) = size
buffer_length p (HandOut place None) = right_length p place
buffer_length p (Publish size) = size
buffer_length p (Tell place) = 0
buffer_length p (Alike first second) = 0
