use Rattle.std.proofs.Common.{◌≡◌, length}
use Rattle.ring.proofs.Mixed.{mixed}
use Rattle.wrapping.specs.Joins.{joined}
use Rattle.wrapping.proofs.join.add.Given as goal

abbrev pub invariant-loop-i : goal.invariant-loop-i
invariant-loop-i l = l.row ≡ mixed (length l.yielded) (joined l.width.bits l.initial.row l.other) l.initial.row
