-- The squared distance of an octet from a word, and the nearest word. An octet is eight numbers taken together.
use Rattle.std.specs.Prelude.{ℕ, zero, suc, ◌+◌, ◌*◌, cond, List, [], ◌∷◌, map, ℤ, pos, ◌+ℤ◌, ◌-ℤ◌, nat_lt, unsigned_abs}
use Rattle.code.specs.Widths.{radius}
use Rattle.code.specs.Folds.{fold}
use Rattle.code.specs.Words.{word}

-- The sums of two lists, place by place.
abbrev pub sums : List ℤ → List ℤ → List ℤ
sums [] ys = []
sums (x ∷ xs) [] = []
sums (x ∷ xs) (y ∷ ys) = (x +ℤ y) ∷ sums xs ys

-- The differences of two lists, place by place.
abbrev pub differences : List ℤ → List ℤ → List ℤ
differences [] ys = []
differences (x ∷ xs) [] = []
differences (x ∷ xs) (y ∷ ys) = (x -ℤ y) ∷ differences xs ys

-- A number times each bit.
abbrev pub times : ℕ → List ℕ → List ℤ
times r bs = map (λ b. pos (r * b)) bs

-- The sum of the squares.
abbrev pub squares : List ℤ → ℕ
squares [] = 0
squares (z ∷ zs) = unsigned_abs z * unsigned_abs z + squares zs

-- The sum of the squares of the folds.
abbrev pub folded_squares : ℕ → List ℤ → ℕ
folded_squares r zs = squares (map (fold r) zs)

-- The squared distance of an octet from the word of k: the sum of the squares of the folds of v_i - radius * word_i.
unfoldable pub distance : ℕ → List ℤ → ℕ → ℕ
distance w v k = folded_squares (radius w) (differences v (times (radius w) (word k)))

-- What one place z adds to a distance at the radius r, where the word has the bit b.
unfoldable pub cost : ℕ → ℤ → ℕ → ℕ
cost r z b = unsigned_abs (fold r (z -ℤ pos (r * b))) * unsigned_abs (fold r (z -ℤ pos (r * b)))

-- The first of the numbers from 0 to n at which f is least.
unfoldable pub first_least : (ℕ → ℕ) → ℕ → ℕ
first_least f zero = 0
first_least f (suc n) = cond (nat_lt (f (suc n)) (f (first_least f n))) (suc n) (first_least f n)

-- The number of the nearest word: of the sixteen the one at the least distance, among equals the lowest.
unfoldable pub nearest : ℕ → List ℤ → ℕ
nearest w v = first_least (distance w v) 15
