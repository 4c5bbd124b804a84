use Rattle.std.proofs.Common.{◌≡◌, length, map}
use Rattle.ring.proofs.Mixed.{mixed}
use Rattle.wrapping.specs.Trims.{halving}
use Rattle.wrapping.proofs.trim.halvings.Given as goal

abbrev pub invariant-loop-i : goal.invariant-loop-i
invariant-loop-i l = l.out ≡ mixed (length l.yielded) (map halving l.row) l.initial.out
