use Rattle.std.proofs.Common.{codes, sym, ap, rules, arith}
use Rattle.std.proofs.lemmas.Slice.Eq.{text_from_reads}
use Rattle.script.specs.Names.{call_name}
use Rattle.script.proofs.names.CallName.of.Goals as goal

pub returns-in-deposit : goal.returns-in-deposit
returns-in-deposit c = ap call_name (sym (text_from_reads c.args.word.now (codes "deposit") (omega arith) (search rules)))

pub returns-in-handout : goal.returns-in-handout
returns-in-handout c = ap call_name (sym (text_from_reads c.args.word.now (codes "handout") (omega arith) (search rules)))

pub returns-in-publish : goal.returns-in-publish
returns-in-publish c = ap call_name (sym (text_from_reads c.args.word.now (codes "publish") (omega arith) (search rules)))
