-- The number and the word of each refusal, and both as they are printed.
use Rattle.std.specs.Prelude.{ℕ, List, ◌++◌, codes, decimal}
use Rattle.ring.specs.declared.refusal.Refusal.{Refusal}
use Rattle.ring.specs.declared.refusal.Refusal.TheVariants.{Mismatch, Length, Noise, NoInverse, Unkeyed, Place, Taken, Empty, Same, Unequal, Width, TooNoisy, Residue}

-- the number that a caller gets
abbrev pub number_of : Refusal → ℕ
number_of Mismatch = 1
number_of Length = 2
number_of Noise = 3
number_of NoInverse = 4
number_of Unkeyed = 5
number_of Place = 6
number_of Taken = 7
number_of Empty = 8
number_of Same = 9
number_of Unequal = 10
number_of Width = 11
number_of TooNoisy = 12
number_of Residue = 13

-- the word that stands beside the number
abbrev pub word_of : Refusal → List ℕ
word_of Mismatch = codes "mismatch"
word_of Length = codes "length"
word_of Noise = codes "noise"
word_of NoInverse = codes "no inverse"
word_of Unkeyed = codes "unkeyed"
word_of Place = codes "place"
word_of Taken = codes "taken"
word_of Empty = codes "empty"
word_of Same = codes "same"
word_of Unequal = codes "unequal"
word_of Width = codes "width"
word_of TooNoisy = codes "too noisy"
word_of Residue = codes "residue"

-- number, space, word
abbrev pub shown_of : Refusal → List ℕ
shown_of refusal = decimal (number_of refusal) ++ (codes " " ++ word_of refusal)
