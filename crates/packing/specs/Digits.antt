-- Numbers as lists of digits, and rows of numbers packed into bytes.
use Rattle.std.specs.Prelude.{ℕ, zero, suc, ◌+◌, ◌*◌, ◌/◌, ◌%◌, ◌^◌, List, [], ◌∷◌, length}

-- the number that a list of digits in base b stands for, lowest digit first
unfoldable pub value : ℕ → List ℕ → ℕ
value b [] = 0
value b (x ∷ xs) = x + b * value b xs

-- the lowest digits of a number in base b, as many as asked, lowest first
unfoldable pub digits : ℕ → ℕ → ℕ → List ℕ
digits b zero v = []
digits b (suc count) v = v % b ∷ digits b count (v / b)

-- a row of numbers of w bits each as bytes, low bits first
unfoldable pub packed : ℕ → List ℕ → List ℕ
packed w row = digits 256 (length row * w / 8) (value (2 ^ w) row)

-- as many numbers of w bits each as asked, from bytes, low bits first
unfoldable pub unpacked : ℕ → ℕ → List ℕ → List ℕ
unpacked w count bytes = digits (2 ^ w) count (value 256 bytes)
