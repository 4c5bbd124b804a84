-- The book that a register shows.
use Rattle.std.specs.Prelude.{◌≡◌, ℕ, List, map, take, Ok, Err, Option, Result}
use Rattle.std.specs.Option.{option_map}
use Rattle.ring.specs.declared.refusal.Refusal.{Refusal}
use Rattle.places.specs.declared.filled.Filled.{Filled}
use Rattle.places.specs.declared.register.Register.{Register}
use Rattle.places.specs.Books.{Line, Book}

-- what a filled place has at the degree n
abbrev pub line_of : ℕ → Filled → Line
line_of n a = record { width = a.width.bits; coefficients = take n a.coefficients; allowance = a.allowance }

-- what a register's places hold
unfoldable pub book_of : ℕ → List (Option Filled) → Book
book_of n places = map (option_map (line_of n)) places

abbrev pub book : Register → Book
book register = book_of register.key.degree register.places

-- a reply with a record as a reply with its line
abbrev pub lined : ℕ → Result Filled Refusal → Result Line Refusal
lined n (Ok a) = Ok (line_of n a)
lined n (Err e) = Err e

-- a reply with an optional record as a reply with its line
abbrev pub optional : ℕ → Result (Option Filled) Refusal → Result (Option Line) Refusal
optional n (Ok a) = Ok (option_map (line_of n) a)
optional n (Err e) = Err e

-- what a change leaves of a register: its key, and a book
abbrev pub Leaves : Register → Register → Book → Type 0
Leaves before after places = (after.key ≡ before.key) × (book after ≡ places)
