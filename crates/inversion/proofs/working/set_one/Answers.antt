use Rattle.std.proofs.Common.{length, replicate, set, ap, ◌∙◌, ap₂}
use Rattle.inversion.specs.Leading.{field}
use Rattle.inversion.proofs.Fillings.{first_one}
use Rattle.inversion.proofs.working.set_one.Goals as goal

pub returns : goal.returns
returns c =
    let n = length c.args.row.now in
    ap₂ (λ w x. set w 0 x) (c.fill.ensures.after (λ y e. e) ∙ ap (replicate n) c.zero.ensures) c.one.ensures ∙ first_one field n c.requires
