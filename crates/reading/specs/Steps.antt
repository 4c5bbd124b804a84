-- What is read step by step.
use Rattle.std.specs.Prelude.{Ok, Err, Result}

-- what reading goes on with where nothing was amiss so far
abbrev pub then : {X Y E : Type 0} → Result X E → (X → Result Y E) → Result Y E
then (Ok x) rest = rest x
then (Err e) rest = Err e

-- an answer with its value seen in another way
abbrev pub seen : {X Y E : Type 0} → (X → Y) → Result X E → Result Y E
seen view (Ok x) = Ok (view x)
seen view (Err e) = Err e
