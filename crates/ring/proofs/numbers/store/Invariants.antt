use Rattle.std.proofs.Common.{◌≡◌}
use Rattle.ring.proofs.Mixed.{mixed}
use Rattle.ring.specs.Engines.{numbers}
use Rattle.ring.proofs.numbers.store.Given as goal

abbrev pub invariant-loop-i : goal.invariant-loop-i
invariant-loop-i g l = l.target ≡ mixed l.i (numbers l.source) l.initial.target
