-- The promise of the station at hand.
use Rattle.std.specs.Prelude.{List, IfSome}
use Rattle.custody.specs.Promise.{Asked, Replied, Upheld}
use Rattle.session.specs.Hands.{Hand, Post}

-- since it was commissioned the station was asked some calls and replied to them, and it upholds the promise about these
pub record Promise (p : Post) : Type 0 where
  pub asked : List Asked
  pub replied : List Replied
  pub upheld : Upheld p.key p.told asked replied p.book

-- a station at hand keeps the promise
abbrev pub Promised : Hand → Type 0
Promised hand = IfSome hand.station Promise
