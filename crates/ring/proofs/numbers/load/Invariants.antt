use Rattle.std.proofs.Common.{◌≡◌}
use Rattle.ring.proofs.Mixed.{mixed}
use Rattle.ring.specs.Engines.{residues}
use Rattle.ring.proofs.numbers.load.Given as goal

abbrev pub invariant-loop-i : goal.invariant-loop-i
invariant-loop-i g l = l.target ≡ mixed l.i (residues g.row.LAST l.source) l.initial.target
