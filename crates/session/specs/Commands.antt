-- What each command of a script is answered, and what the session has at hand afterwards.
use Rattle.std.specs.Prelude.{◌≡◌, ℕ, List, ℤ, Some, None, Ok, Err, vec_items, Result, MatchOption}
use Rattle.ring.specs.declared.refusal.Refusal.{Refusal}
use Rattle.keying.specs.declared.key.Key.{Key}
use Rattle.keying.specs.Keying.{Keying, Unkeyed}
use Rattle.keying.specs.Told.{Told, tells}
use Rattle.places.specs.Books.{empty_book}
use Rattle.reading.specs.declared.fault.Unread.{Unread as Part}
use Rattle.reading.specs.declared.fault.Fault.TheVariants.{Unread as NotRead, NoSuchEngine}
use Rattle.script.specs.Commands.{asked_of, command_of}
use Rattle.script.specs.declared.command.Command.{Command}
use Rattle.script.specs.declared.command.Command.TheVariants.{Engines, Key as Keyed, Commission, Station, Apart}
use Rattle.session.specs.Said.{Said, done, no_draft, no_engine, no_station, obeyed, unread}
use Rattle.session.specs.Hands.{Hand, Sketch, Post}
use Rattle.session.specs.Requests.{answered, post_after}
use Rattle.session.specs.Tasks.{task_said}

-- a new draft is at hand that is not keyed, and no station
pub record Begun (told : Told) (after : Hand) : Type 0 where
  pub degree : after.degree ≡ told.field_degree
  pub key : Key
  pub unkeyed : Unkeyed key
  pub draft : after.draft ≡ Some (record { key = key; told = told })
  pub station : after.station ≡ None

-- a draft was keyed with f' and g, or it was refused
pub record Tried (draft : Sketch) (f g : List ℤ) (before : Hand) (said : Said) (after : Hand) : Type 0 where
  pub key : Key
  pub reply : Result (Unit {0}) Refusal
  pub keying : Keying draft.told f g draft.key key reply
  pub answers : said ≡ obeyed reply
  pub hand : after ≡ record { degree = before.degree; draft = Some (record { key = key; told = draft.told }); station = before.station }

-- a draft was given up for a station
pub record Opened (draft : Sketch) (before : Hand) (said : Said) (after : Hand) : Type 0 where
  pub answers : said ≡ done
  pub hand : after ≡ record { degree = before.degree; draft = None; station = Some (record { key = draft.key; told = draft.told; book = empty_book }) }

-- a station was asked
pub record Asked (answer : Said) (next : Post) (before : Hand) (said : Said) (after : Hand) : Type 0 where
  pub answers : said ≡ answer
  pub hand : after ≡ record { degree = before.degree; draft = before.draft; station = Some next }

-- something was said, and all is as it was
pub record Only (answer : Said) (before : Hand) (said : Said) (after : Hand) : Type 0 where
  pub answers : said ≡ answer
  pub hand : after ≡ before

-- a command was carried out
abbrev pub Carried : Hand → Command → Said → Hand → Type 0
Carried before (Engines field binary) said after =
    (said ≡ done) × Begun (tells field.degree field.modulus binary.degree binary.modulus) after
Carried before (Keyed f g) said after =
    MatchOption before.draft (Only no_draft before said after) (λ draft. Tried draft (vec_items f) (vec_items g) before said after)
Carried before Commission said after =
    MatchOption before.draft (Only no_draft before said after) (λ draft. Opened draft before said after)
Carried before (Station request) said after =
    MatchOption before.station (Only no_station before said after)
    (λ station. Asked (answered station request) (post_after station request) before said after)
Carried before (Apart task) said after = Only (task_said task) before said after

-- the line of a name and the words after it was read as a command and carried out,
-- or it was not, and then all is as it was
pub data Replied (before : Hand) (name : List ℕ) (words : List (List ℕ)) (said : Said) (after : Hand) : Type 0 where
  carried : (command : Command) → Ok (asked_of command) ≡ command_of name before.degree words → Carried before command said after → Replied before name words said after
  not_read : (what : Part) → Err (NotRead what) ≡ command_of name before.degree words → Only (unread what) before said after → Replied before name words said after
  not_made : Err NoSuchEngine ≡ command_of name before.degree words → Only no_engine before said after → Replied before name words said after
