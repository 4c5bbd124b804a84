-- White space beyond ASCII, as its bytes in UTF-8: a text with a space for each of them.
use Rattle.std.specs.Prelude.{ℕ, ◌-◌, Bool, cond, ◌&&◌, ◌||◌, List, [], ◌∷◌, ◌==◌, nat_le, slice_index_or}

-- the bytes of U+0085 and U+00A0
abbrev pub white_two : ℕ → ℕ → Bool
white_two a b = a == 0xC2 && (b == 0x85 || b == 0xA0)

-- the last bytes of U+2000 to U+200A, U+2028, U+2029 and U+202F
abbrev pub white_last : ℕ → Bool
white_last c = (nat_le 0x80 c && nat_le c 0x8A) || (c == 0xA8 || (c == 0xA9 || c == 0xAF))

-- the bytes of U+1680 and U+3000
abbrev pub white_rare : ℕ → ℕ → ℕ → Bool
white_rare a b c = (a == 0xE1 && (b == 0x9A && c == 0x80)) || (a == 0xE3 && (b == 0x80 && c == 0x80))

-- the bytes of U+2000 to U+200A, U+2028, U+2029, U+202F and U+205F
abbrev pub white_general : ℕ → ℕ → ℕ → Bool
white_general a b c = a == 0xE2 && ((b == 0x80 && white_last c) || (b == 0x81 && c == 0x9F))

-- how many bytes the character of white space takes that these three begin with, or 0 where they begin with none
abbrev pub white_by : ℕ → ℕ → ℕ → ℕ
white_by a b c = cond (white_two a b) 2 (cond (white_rare a b c || white_general a b c) 3 0)

-- how many bytes of such a character are to come at the front of a text, where `left` of one that has begun are
abbrev pub white_front : ℕ → List ℕ → ℕ
white_front left text = cond (left == 0) (white_by (slice_index_or text 0 0) (slice_index_or text 1 0) (slice_index_or text 2 0)) left

-- a space for each byte of white space beyond ASCII, where `left` bytes of a character that has begun are to come
unfoldable pub spaced : ℕ → List ℕ → List ℕ
spaced left [] = []
spaced left (byte ∷ text) =
    let white = white_front left (byte ∷ text) in
    cond (white == 0) byte 32 ∷ spaced (white - 1) text
