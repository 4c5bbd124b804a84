-- What the engines of a draft tell.
use Rattle.ring.specs.declared.engine.RingEngine.{Ghosts as Engine}
use Rattle.keying.specs.declared.draft.Draft.{Draft}
use Rattle.keying.specs.Told.{Told, telling}

abbrev pub told_by : {P Q : Type 0} → Engine P → Engine Q → Draft P Q → Told
told_by p q draft = telling p q draft.engines.field draft.engines.binary
