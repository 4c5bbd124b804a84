use Rattle.std.proofs.Common.{drop}
use Rattle.script.specs.Written.{hex_of}
use Rattle.script.proofs.Writing.{Halfway}
use Rattle.script.proofs.written.bytes.Given as goal

abbrev pub invariant-loop-value : goal.invariant-loop-value
invariant-loop-value g l = Halfway g.W.Write.write_str_gives l.initial.f l.f (hex_of l.values) (hex_of (drop l.value-index l.values))
