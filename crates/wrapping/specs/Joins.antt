-- How two wrappings are added, and their messages with them.
use Rattle.std.specs.Prelude.{ℕ, ◌+◌, ◌%◌, ◌^◌, List, [], ◌∷◌, bit_xor}

-- coefficients add modulo 2^w; where the second row has no place the first keeps its own
unfoldable pub joined : ℕ → List ℕ → List ℕ → List ℕ
joined w [] ys = []
joined w (x ∷ xs) [] = x ∷ xs
joined w (x ∷ xs) (y ∷ ys) = (x + y) % 2 ^ w ∷ joined w xs ys

-- the exclusive-or of two messages, byte by byte
unfoldable pub xored : List ℕ → List ℕ → List ℕ
xored [] ys = []
xored (x ∷ xs) [] = []
xored (x ∷ xs) (y ∷ ys) = bit_xor x y ∷ xored xs ys
