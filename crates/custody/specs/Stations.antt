-- A station by what the ledger knows of it: its key, what its engines tell, and the book that its places show.
use Rattle.std.specs.Prelude.{◌≡◌}
use Rattle.ring.specs.declared.engine.RingEngine.{Ghosts as Engine}
use Rattle.keying.specs.declared.key.Key.{Key}
use Rattle.keying.specs.Told.{Told, telling}
use Rattle.places.specs.Books.{Book}
use Rattle.places.specs.Views.{book}
use Rattle.custody.specs.declared.station.Station.{Station}

abbrev pub key_of : {P Q : Type 0} → Station P Q → Key
key_of station = station.register.key

abbrev pub told_by : {P Q : Type 0} → Engine P → Engine Q → Station P Q → Told
told_by p q station = telling p q station.engines.field station.engines.binary

abbrev pub shown_by : {P Q : Type 0} → Station P Q → Book
shown_by station = book station.register

-- what a call leaves of a station: its key, engines that tell the same, and a book
abbrev pub Leaves : {P Q : Type 0} → Engine P → Engine Q → Station P Q → Station P Q → Book → Type 0
Leaves p q before after book = (key_of after ≡ key_of before) × (told_by p q after ≡ told_by p q before) × (shown_by after ≡ book)
