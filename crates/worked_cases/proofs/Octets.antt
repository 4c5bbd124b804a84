-- A word, and an octet half way between two.
use Rattle.std.proofs.Common.{◌≡◌, [], ◌∷◌, pos, refl}
use Rattle.code.specs.Words.{word}
use Rattle.code.specs.Distances.{distance, nearest, first_least}
use Rattle.code.specs.Folds.{fold, rest}
use Rattle.code.specs.Widths.{radius}
use Rattle.worked_cases.specs.Table.{half_way}

pub last_word : word 15 ≡ 1 ∷ 0 ∷ 0 ∷ 1 ∷ 0 ∷ 1 ∷ 1 ∷ 0 ∷ []
unfolding word
last_word = refl

pub tie : (distance 10 half_way 0 ≡ 262144) × (distance 10 half_way 1 ≡ 262144) × (nearest 10 half_way ≡ 0)
unfolding distance nearest first_least fold rest radius word
tie = (refl, refl, refl)

pub past_tie : nearest 10 (pos 257 ∷ pos 256 ∷ pos 256 ∷ pos 256 ∷ pos 0 ∷ pos 0 ∷ pos 0 ∷ pos 0 ∷ []) ≡ 1
unfolding distance nearest first_least fold rest radius word
past_tie = refl
