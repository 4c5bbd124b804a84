use Rattle.std.proofs.Common.{◌≡◌, map}
use Rattle.ring.proofs.Mixed.{mixed}
use Rattle.wrapping.specs.Trims.{halved}
use Rattle.wrapping.proofs.trim.halve.Given as goal

abbrev pub invariant-loop-c : goal.invariant-loop-c
invariant-loop-c l = l.row ≡ mixed l.c-index (map (halved l.width.bits) l.initial.row) l.initial.row
