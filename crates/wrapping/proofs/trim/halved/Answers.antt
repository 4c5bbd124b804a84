use Rattle.std.proofs.Common.{◌+◌, ◌/◌, ◌%◌, ap}
use Rattle.code.specs.Widths.{radius}
use Rattle.wrapping.specs.Trims.{halved}
use Rattle.wrapping.proofs.trim.halved.Goals as goal

pub returns : goal.returns
unfolding halved radius
returns c = ap (λ r. (c.args.c + 1) / 2 % r) c.radius.ensures.value
