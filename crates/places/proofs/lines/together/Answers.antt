use Rattle.std.proofs.Common.{◌+◌, ◌^◌, take, ap, ◌∙◌}
use Rattle.ring.specs.Engines.{all_below}
use Rattle.places.specs.Lines.{candidate}
use Rattle.places.specs.Lines.{quiet}
use Rattle.places.proofs.RowParts.{joined-below, take-joined}
use Rattle.places.proofs.lines.together.Goals as goal

pub quiet-requires : goal.quiet-requires
quiet-requires c =
    let w = c.args.first.width.bits in
    ap (all_below (2 ^ w)) c.add.ensures ∙ joined-below w c.args.first.coefficients c.args.second.coefficients c.args.first.small

pub returns : goal.returns
returns c = λ n.
    let a = c.args.first in
    let b = c.args.second in
    c.quiet.ensures n
    ∙ ap (λ row. quiet (candidate a.width.bits row (a.allowance + b.allowance)))
    (ap (take n) c.add.ensures ∙ take-joined a.width.bits n a.coefficients b.coefficients)
