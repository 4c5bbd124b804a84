-- What a line of a script is answered, without the memory that holds it.
use Rattle.std.specs.Prelude.{ℕ, Bool, cond, List, Ok, Err, vec_items, Result}
use Rattle.ring.specs.declared.refusal.Refusal.{Refusal}
use Rattle.reading.specs.declared.fault.Unread.{Unread as Part}
use Rattle.custody.specs.declared.call.Answer.{Answer as Reply}
use Rattle.custody.specs.declared.call.Answer.TheVariants.{Done as Obeyed, Told as Held, Likeness as Compared}
use Rattle.script.specs.declared.answer.Answer.{Answer}
use Rattle.script.specs.declared.answer.Answer.TheVariants.{Done, Refused, Bytes, Row, Told, Likeness, NoSuchEngine, NoDraft, NoStation, Unread}

pub data Said : Type 0 where
  done : Said
  refused : Refusal → Said
  bytes : List ℕ → Said
  row : List ℕ → Said
  holds : ℕ → ℕ → Said
  likeness : Bool → Said
  no_engine : Said
  no_draft : Said
  no_station : Said
  unread : Part → Said

abbrev pub said : Answer → Said
said Done = done
said (Refused e) = refused e
said (Bytes values) = bytes (vec_items values)
said (Row values) = row (vec_items values)
said (Told width allowance) = holds width allowance
said (Likeness alike) = likeness alike
said NoSuchEngine = no_engine
said NoDraft = no_draft
said NoStation = no_station
said (Unread what) = unread what

-- what is said of a call: what belongs to it where it is obeyed, or the refusal
abbrev pub replied : {X : Type 0} → Result X Refusal → Said → Said
replied (Ok x) said = said
replied (Err e) said = refused e

-- an obeyed call that answers nothing
abbrev pub obeyed : {X : Type 0} → Result X Refusal → Said
obeyed reply = replied reply done

-- an obeyed call that writes bytes
abbrev pub given : {X : Type 0} → Result X Refusal → List ℕ → Said
given reply content = replied reply (bytes content)

-- an obeyed call that writes a row
abbrev pub given_row : {X : Type 0} → Result X Refusal → List ℕ → Said
given_row reply content = replied reply (row content)

-- an obeyed call that writes the bytes of what it found
abbrev pub shown : {X : Type 0} → Result X Refusal → (X → List ℕ) → Said
shown (Ok x) content = bytes (content x)
shown (Err e) content = refused e

-- what a station answers, with the content of the buffer where that was asked for
abbrev pub said_as : Bool → Result Reply Refusal → List ℕ → Said
said_as asked (Ok Obeyed) content = cond asked (bytes content) done
said_as asked (Ok (Held a)) content = holds a.width a.allowance
said_as asked (Ok (Compared alike)) content = likeness alike
said_as asked (Err e) content = refused e
