-- What is checked of places, in the order in which a call looks at them.
use Rattle.std.specs.Prelude.{ℕ, ◌/◌, cond, ◌&&◌, List, length, ℤ, Some, None, Ok, Err, Option, ◌==◌, nat_le, nat_lt}
use Rattle.std.specs.Option.{ok_or}
use Rattle.ring.specs.declared.refusal.Refusal.TheVariants.{Length, Noise, Place, Taken, Empty, Same, Unequal, Width}
use Rattle.wrapping.specs.Secrets.{all_small}
use Rattle.places.specs.Books.{Line, Book, at}
use Rattle.places.specs.Replies.{Reply, then}
use Rattle.places.specs.Lines.{quiet, together}

-- 6: a place above 7
abbrev pub placed : {X : Type 0} → ℕ → Reply X → Reply X
placed place rest = cond (nat_lt 7 place) (Err Place) rest

-- 6, 8: the line of a filled place
abbrev pub found : Book → ℕ → Reply Line
found book place = placed place (ok_or (at book place) Empty)

-- 7: the place is taken
abbrev pub free : {X : Type 0} → Option Line → Reply X → Reply X
free None rest = rest
free (Some line) rest = Err Taken

-- the width of a deposit is 9 to 11
abbrev pub deposit_width : ℕ → Reply ℕ
deposit_width w = cond (nat_le 9 w && nat_le w 11) (Ok w) (Err Width)

-- what a deposit looks at besides its place: 11, 2, 3
abbrev pub depositable : ℕ → ℕ → List ℤ → List ℕ → Reply ℕ
depositable n w r message =
    then (deposit_width w) (λ _.
    cond (length r == n && length message == n / 16) (cond (all_small r) (Ok w) (Err Noise)) (Err Length))

-- what a deposit looks at before it wraps: 6, 7, 11, 2, 3
abbrev pub vacant : ℕ → Book → ℕ → ℕ → List ℤ → List ℕ → Reply ℕ
vacant n book place w r message = placed place (free (at book place) (depositable n w r message))

-- what a join makes of two places: 6, 9, 8, 10, 12
abbrev pub join_places : Book → ℕ → ℕ → Reply Line
join_places book first second =
    placed first (placed second
    (cond (first == second) (Err Same)
    (then (found book first) (λ a. then (found book second) (λ b.
    cond (a.width == b.width) (quiet (together a b)) (Err Unequal))))))

-- 2 comes last where a call has a buffer
abbrev pub buffered : {X : Type 0} → ℕ → ℕ → X → Reply X
buffered wanted size x = cond (size == wanted) (Ok x) (Err Length)
