-- What a session has at hand between two lines: a draft, a station, or neither.
use Rattle.std.specs.Prelude.{ℕ, Option}
use Rattle.std.specs.Option.{option_map}
use Rattle.ring.specs.declared.counting.Counting.{Counting}
use Rattle.ring.specs.declared.turning.Turning.{Turning}
use Rattle.keying.specs.declared.key.Key.{Key}
use Rattle.keying.specs.declared.draft.Draft.{Draft}
use Rattle.keying.specs.Told.{Told, tells}
use Rattle.places.specs.Books.{Book}
use Rattle.custody.specs.Stations.{key_of, shown_by}
use Rattle.custody.specs.declared.station.Station.{Station}
use Rattle.session.specs.declared.state.Session.{Session}

-- a draft by its key and by what its engines tell
pub record Sketch : Type 0 where
  pub key : Key
  pub told : Told

-- a station by its key, by what its engines tell, and by what its places show
pub record Post : Type 0 where
  pub key : Key
  pub told : Told
  pub book : Book

pub record Hand : Type 0 where
  pub degree : ℕ
  pub draft : Option Sketch
  pub station : Option Post

-- what two turning engines tell that are counted
abbrev pub told_of : Counting Turning → Counting Turning → Told
told_of field binary = tells field.below.degree field.below.modulus binary.below.degree binary.below.modulus

abbrev pub sketch : Draft (Counting Turning) (Counting Turning) → Sketch
sketch draft = record { key = draft.key; told = told_of draft.engines.field draft.engines.binary }

abbrev pub post : Station (Counting Turning) (Counting Turning) → Post
post station = record { key = key_of station; told = told_of station.engines.field station.engines.binary; book = shown_by station }

abbrev pub at_hand : Session → Hand
at_hand session = record {
  degree = session.degree;
  draft = option_map sketch session.draft;
  station = option_map post session.station;
}
