use Rattle.std.proofs.Common.{◌≤◌}
use Rattle.code.specs.Tries.{Best}
use Rattle.code.proofs.Searches.{tally}
use Rattle.code.proofs.nearest.best_even.Given as goal

abbrev pub invariant-loop-k : goal.invariant-loop-k
invariant-loop-k l =
    Best (tally l.a.zero l.a.one l.b.zero l.b.one l.c.zero l.c.one l.d.zero l.d.one) l.k l.best.number.value l.best.distance
    × (l.best.distance ≤ 8388608)
