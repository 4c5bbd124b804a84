-- What each call answers: the first check that fails, or the result.
use Rattle.std.specs.Prelude.{ℕ, ◌*◌, ◌/◌, ◌%◌, ◌^◌, Bool, cond, ◌&&◌, List, length, Ok, Err, Result, ◌==◌, nat_le, nat_lt}
use Rattle.ring.specs.declared.refusal.Refusal.{Refusal}
use Rattle.ring.specs.declared.refusal.Refusal.TheVariants.{Mismatch, Length, Width, Residue}
use Rattle.ring.specs.Engines.{all_below}
use Rattle.packing.specs.Digits.{unpacked}

-- the widths that are packed
abbrev pub narrow : ℕ → Bool
narrow w = nat_le 8 w && nat_le w 12

-- whether a width is one of them
abbrev pub width_answer : ℕ → Result (Unit {0}) Refusal
width_answer w = cond (narrow w) (Ok tt) (Err Width)

-- whether so many bits are left
abbrev pub enough_answer : ℕ → ℕ → Result (Unit {0}) Refusal
enough_answer w left = cond (nat_lt left w) (Err Length) (Ok tt)

-- the next number of a reader: the lowest bits of what is left, where there are enough
abbrev pub taken : ℕ → ℕ → ℕ → Result ℕ Refusal
taken w left number = cond (narrow w) (cond (nat_lt left w) (Err Length) (Ok (number % 2 ^ w))) (Err Width)

-- whether numbers of w bits each fill bytes to the last bit
abbrev pub lengths_answer : ℕ → ℕ → ℕ → Result (Unit {0}) Refusal
lengths_answer w numbers bytes = cond (narrow w) (cond (bytes * 8 == numbers * w) (Ok tt) (Err Length)) (Err Width)

-- a row of numbers to be packed into so many bytes
abbrev pub pack_row_answer : ℕ → List ℕ → ℕ → Result (Unit {0}) Refusal
pack_row_answer w row bytes =
    cond (narrow w) (cond (bytes * 8 == length row * w) (cond (all_below (2 ^ w) row) (Ok tt) (Err Residue)) (Err Length)) (Err Width)

-- how many entries a key may have
abbrev pub key_degree : ℕ → Bool
key_degree n = n % 16 == 0 && (nat_le 16 n && nat_le n 1024)

-- whether so many numbers and so many bytes are a key of n entries of 12 bits
abbrev pub shape_answer : ℕ → ℕ → ℕ → Result (Unit {0}) Refusal
shape_answer n numbers bytes = cond (key_degree n) (cond (numbers == n && bytes == n * 12 / 8) (Ok tt) (Err Length)) (Err Mismatch)

-- whether a number is a residue modulo 3457
abbrev pub entry_answer : ℕ → Result (Unit {0}) Refusal
entry_answer x = cond (nat_lt x 3457) (Ok tt) (Err Residue)

-- whether each entry is a residue modulo 3457
abbrev pub entries_answer : List ℕ → Result (Unit {0}) Refusal
entries_answer row = cond (all_below 3457 row) (Ok tt) (Err Residue)

-- a key of n entries that so many numbers and so many bytes are to hold
abbrev pub key_answer : ℕ → ℕ → ℕ → List ℕ → Result (Unit {0}) Refusal
key_answer n numbers bytes entries =
    cond (key_degree n) (cond (numbers == n && bytes == n * 12 / 8) (entries_answer entries) (Err Length)) (Err Mismatch)

-- a key of n entries to be packed into so many bytes
abbrev pub pack_key_answer : ℕ → List ℕ → ℕ → Result (Unit {0}) Refusal
pack_key_answer n row bytes = key_answer n (length row) bytes row

-- a key of n entries to be unpacked into so many numbers
abbrev pub unpack_key_answer : ℕ → List ℕ → ℕ → Result (Unit {0}) Refusal
unpack_key_answer n bytes numbers = key_answer n numbers (length bytes) (unpacked 12 n bytes)

-- what a buffer holds after a call: the new content, or what it held where the call was refused
abbrev pub written : Result (Unit {0}) Refusal → List ℕ → List ℕ → List ℕ
written (Ok _) new old = new
written (Err _) new old = old
