-- What becomes of the book where a call was obeyed.
use Rattle.std.specs.Prelude.{ℕ, Some, None, Ok, Err, slice_set}
use Rattle.places.specs.Books.{Line, Book}
use Rattle.places.specs.Replies.{Reply}

-- the book with a new line at a place, where the call was obeyed
abbrev pub put : Book → ℕ → Reply Line → Book
put book place (Ok line) = slice_set book place (Some line)
put book place (Err e) = book

-- the book with a place emptied, where the call was obeyed
abbrev pub emptied : Book → ℕ → Reply Line → Book
emptied book place (Ok line) = slice_set book place None
emptied book place (Err e) = book
