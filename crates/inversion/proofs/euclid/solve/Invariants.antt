use Rattle.inversion.specs.Leading.{leading}
use Rattle.inversion.proofs.Runs.{Running, height}
use Rattle.inversion.proofs.euclid.solve.Given as goal

abbrev pub invariant-loop-upper : goal.invariant-loop-upper
invariant-loop-upper l = Running l.f l.upper l.upper_cofactor l.lower l.lower_cofactor

abbrev pub decreases-loop-upper : goal.decreases-loop-upper
decreases-loop-upper l = height (leading l.lower)
