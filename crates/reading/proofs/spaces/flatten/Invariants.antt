use Rattle.reading.proofs.Spacing.{Going}
use Rattle.reading.proofs.spaces.flatten.Given as goal

abbrev pub invariant-loop-i : goal.invariant-loop-i
invariant-loop-i l = Going l.initial.text l.text l.i l.left
