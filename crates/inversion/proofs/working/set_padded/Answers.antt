use Rattle.std.proofs.Common.{length, drop, set, ◌++◌, ap, ◌∙◌}
use Rattle.inversion.specs.Leading.{field}
use Rattle.inversion.proofs.Fillings.{padded_by_copy}
use Rattle.inversion.proofs.working.set_padded.Goals as goal

pub returns : goal.returns
returns c =
    let n = length c.args.f.now in
    ap (λ w. set (w ++ drop n c.args.row.now) n c.zero.result) c.copy_from_slice.ensures.after ∙ padded_by_copy field c.args.f.now c.args.row.now c.zero.result c.requires c.zero.ensures
