use Rattle.std.proofs.Common.{◌≡◌, length}
use Rattle.ring.specs.Rows.{add_into}
use Rattle.ring.proofs.Mixed.{mixed}
use Rattle.ring.proofs.rows.add_multiple.Given as goal

abbrev pub invariant-loop-i : goal.invariant-loop-i
invariant-loop-i g l = l.target ≡ mixed (length l.yielded) (add_into g.C.Coefficient.ring l.initial.target l.k l.row) l.initial.target
