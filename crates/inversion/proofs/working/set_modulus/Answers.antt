use Rattle.std.proofs.Common.{◌/◌, set, ap, ◌∙◌}
use Rattle.ring.specs.Rows.{unit}
use Rattle.inversion.specs.Leading.{field}
use Rattle.inversion.proofs.Fillings.{modulus_made}
use Rattle.inversion.proofs.working.set_modulus.Goals as goal

pub returns : goal.returns
returns c =
    let R = field in
    let n = c.args.n in
    ap (set (set c.set_one.new.row (n / 2) c.plus.result) n) c.one-2.ensures
    ∙ modulus_made R n c.set_one.new.row c.index-row-half.result c.plus.result c.requires.0
    (c.set_one.ensures ∙ ap (unit R) c.requires.1) c.index-row-half.is
    (c.plus.ensures ∙ ap (R.add c.index-row-half.result) (c.minus.ensures ∙ ap R.neg c.one.ensures))
