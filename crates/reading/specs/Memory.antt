-- Want of memory may end the reading of anything; nothing else is left open.
use Rattle.std.specs.Prelude.{◌≡◌, ◌⊎◌, Ok, Err, Result}
use Rattle.reading.specs.declared.fault.Fault.{Fault}
use Rattle.reading.specs.declared.fault.Fault.TheVariants.{Memory}
use Rattle.reading.specs.declared.fault.Unread.{Unread}
use Rattle.reading.specs.declared.fault.Fault.TheVariants.{Unread as NotRead}

-- what could not be read, as a fault
abbrev pub faulty : {X : Type 0} → Result X Unread → Result X Fault
faulty (Ok x) = Ok x
faulty (Err e) = Err (NotRead e)

-- memory was wanting, or the answer is the one that is due
abbrev pub Spared : {X : Type 0} → Result X Fault → Result X Fault → Type 0
Spared answer due = (answer ≡ Err Memory) ⊎ (answer ≡ due)
