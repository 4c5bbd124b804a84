use Rattle.std.proofs.Common.{◌≡◌, ◌++◌, drop, vec_items}
use Rattle.reading.specs.Rows.{each}
use Rattle.reading.specs.Steps.{seen}
use Rattle.reading.proofs.rows.narrowed.Given as goal

abbrev pub invariant-loop-value : goal.invariant-loop-value
invariant-loop-value g l =
    let reads = g.C.Coefficient.reads in
    each reads l.row ≡ seen (λ rest. vec_items l.out ++ rest) (each reads (drop l.value-index l.row))
