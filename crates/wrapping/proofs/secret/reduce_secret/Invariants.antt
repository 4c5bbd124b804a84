use Rattle.std.proofs.Common.{◌≡◌, length, ◌+◌}
use Rattle.ring.proofs.Mixed.{mixed}
use Rattle.wrapping.specs.Secrets.{reduced_row, secret}
use Rattle.wrapping.proofs.secret.reduce_secret.Given as goal

abbrev pub invariant-loop-i : goal.invariant-loop-i
invariant-loop-i g l = l.out ≡ mixed (length l.yielded) (reduced_row (g.row.LAST + 1) (secret l.f)) l.initial.out
