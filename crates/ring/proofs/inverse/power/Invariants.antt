use Rattle.std.proofs.Common.{◌≡◌, drop}
use Rattle.ring.specs.Powers.{climb, exponent}
use Rattle.ring.proofs.inverse.power.Given as goal

abbrev pub invariant-loop-set : goal.invariant-loop-set
invariant-loop-set l = climb l.x.value l.power.value (drop l.set-index exponent) ≡ climb l.x.value 1 exponent
