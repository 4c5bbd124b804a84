-- The bits of a message, and the numbers of the words that stand for them.
use Rattle.std.specs.Prelude.{ℕ, ◌+◌, ◌*◌, ◌/◌, ◌%◌, ◌^◌, List, slice_index}

-- Bit i of a message of bytes: bit i mod 8 of byte i / 8, the lowest first. Past the end it is 0.
abbrev pub message_bit : List ℕ → ℕ → ℕ
message_bit message i = slice_index message (i / 8) / 2 ^ (i % 8) % 2

-- The number of octet i: message bits 4 i to 4 i + 3, the lowest first.
unfoldable pub number : List ℕ → ℕ → ℕ
number message i = message_bit message (4 * i) + 2 * message_bit message (4 * i + 1) + 4 * message_bit message (4 * i + 2) + 8 * message_bit message (4 * i + 3)
