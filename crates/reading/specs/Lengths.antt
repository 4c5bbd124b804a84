-- The lengths of the buffers that a script's calls write into.
use Rattle.std.specs.Prelude.{ℕ, ◌*◌, ◌/◌, min, List, [], ◌∷◌, Some, None, Ok, Option, Result}
use Rattle.std.specs.Option.{unwrap_or}
use Rattle.reading.specs.declared.fault.Unread.{Unread}
use Rattle.reading.specs.Numerals.{number_of}
use Rattle.reading.specs.Steps.{then}

-- a length of a buffer is at most 8192
abbrev pub buffer_for : ℕ → ℕ
buffer_for n = min n 8192

-- how many bytes hold numbers of so many bits each
abbrev pub bytes_for : ℕ → ℕ → ℕ
bytes_for count bits = buffer_for (count * bits / 8)

-- the length that the words give, if they give one
abbrev pub given_length : List (List ℕ) → Result (Option ℕ) Unread
given_length [] = Ok None
given_length (word ∷ words) = then (number_of word) (λ n. Ok (Some (buffer_for n)))

-- the length that the words give, else the right one
abbrev pub given_length_or : ℕ → List (List ℕ) → Result ℕ Unread
given_length_or right words = then (given_length words) (λ n. Ok (unwrap_or n (buffer_for right)))
