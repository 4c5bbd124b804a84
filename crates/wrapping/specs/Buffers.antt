-- What a buffer holds after a row was written into it.
use Rattle.std.specs.Prelude.{List, [], ◌∷◌}

module _ {X : Type 0} where
  -- the new row from place 0 on, as far as the buffer goes, and past its end what was there
  unfoldable pub over : List X → List X → List X
  over [] old = old
  over (x ∷ new) [] = []
  over (x ∷ new) (y ∷ old) = x ∷ over new old
