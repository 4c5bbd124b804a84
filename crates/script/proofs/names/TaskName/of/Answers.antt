use Rattle.std.proofs.Common.{codes, sym, ap, rules, arith}
use Rattle.std.proofs.lemmas.Slice.Eq.{text_from_reads}
use Rattle.script.specs.Names.{task_name}
use Rattle.script.proofs.names.TaskName.of.Goals as goal

pub returns-in-unseal : goal.returns-in-unseal
returns-in-unseal c = ap task_name (sym (text_from_reads c.args.word.now (codes "unseal") (omega arith) (search rules)))

pub returns-in-unpack : goal.returns-in-unpack
returns-in-unpack c = ap task_name (sym (text_from_reads c.args.word.now (codes "unpack") (omega arith) (search rules)))

pub returns-in-multiply : goal.returns-in-multiply
returns-in-multiply c = ap task_name (sym (text_from_reads c.args.word.now (codes "multiply") (omega arith) (search rules)))
