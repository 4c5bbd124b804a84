use Rattle.std.proofs.Common.{◌≡◌, length}
use Rattle.ring.proofs.Mixed.{mixed}
use Rattle.wrapping.specs.Wraps.{embedded_row}
use Rattle.wrapping.proofs.wrap.embed.Given as goal

abbrev pub invariant-loop-i : goal.invariant-loop-i
invariant-loop-i l = l.out ≡ mixed (length l.yielded) (embedded_row (length l.sigma) l.width.bits l.sigma l.message) l.initial.out
