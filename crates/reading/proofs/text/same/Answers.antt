use Rattle.std.proofs.Common.{rules}
use Rattle.std.proofs.lemmas.Slice.Eq.{slice_eq-Decides, bytes_eq-Decides}
use Rattle.reading.proofs.text.same.Goals as goal
use Rattle.std.proofs.lemmas.Bool.Decides.{Decides-eqb}

pub returns : goal.returns
returns c =
    let compared = slice_eq-Decides Decides-eqb c.args.left.now c.args.right.now c.eq.result c.eq.ensures in
    search (rules, compared, bytes_eq-Decides)
