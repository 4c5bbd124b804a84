use Rattle.std.proofs.Common.{◌≡◌, codes, refl, inr, rules, arith}
use Rattle.std.proofs.lemmas.Slice.Eq.{text_from_reads}
use Rattle.script.proofs.command.named.Goals as goal

pub returns-in-commission : goal.returns-in-commission
returns-in-commission c =
    let same : c.args.name.now ≡ codes "commission" = text_from_reads c.args.name.now (codes "commission") (omega arith) (search rules) in
    rw same (inr refl)
