use Rattle.std.proofs.Common.{◌≡◌, ◌-◌, length, drop}
use Rattle.ring.specs.Rows.{zeros, product}
use Rattle.ring.proofs.Mixed.{mixed}
use Rattle.ring.proofs.turning.horner.Given as goal

abbrev pub invariant-loop-place : goal.invariant-loop-place
invariant-loop-place g l = l.out ≡ mixed l.place-index (zeros g.C.Coefficient.ring (length l.initial.out)) l.initial.out

abbrev pub invariant-loop-k : goal.invariant-loop-k
invariant-loop-k g l = l.out ≡ product g.C.Coefficient.ring (length l.initial.out) (drop (length l.a - length l.yielded) l.a) l.b
