use Rattle.std.proofs.Common.{◌≡◌, ◌++◌, drop, vec_items}
use Rattle.reading.specs.Rows.{each}
use Rattle.reading.specs.Steps.{seen}
use Rattle.reading.proofs.Pairing.{byte_by}
use Rattle.reading.proofs.hex.read.Given as goal

abbrev pub invariant-loop-high : goal.invariant-loop-high
invariant-loop-high l = each byte_by l.pairs ≡ seen (λ bytes. vec_items l.out ++ bytes) (each byte_by (drop l.high-index l.pairs))
