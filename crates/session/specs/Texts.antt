-- The lines of a text: each but the last ends in a line feed.
use Rattle.std.specs.Prelude.{◌≡◌, ℕ, cond, List, [], ◌∷◌, Some, None, Option, ◌==◌}
use Rattle.std.specs.Borrow.{Bor}

-- what stands before the first line feed
abbrev pub first_line : List ℕ → List ℕ
first_line [] = []
first_line (b ∷ text) = cond (b == 10) [] (b ∷ first_line text)

-- what stands after the first line feed
abbrev pub lines_after : List ℕ → List ℕ
lines_after [] = []
lines_after (b ∷ text) = cond (b == 10) text (lines_after text)

-- one line is taken, or none is left
abbrev pub Taken : List ℕ → Option (Bor (List ℕ)) → List ℕ → Type 0
Taken [] None after = after ≡ []
Taken [] (Some line) after = ⊥
Taken (b ∷ text) None after = ⊥
Taken (b ∷ text) (Some line) after = (line.now ≡ first_line (b ∷ text)) × (after ≡ lines_after (b ∷ text))
