use Rattle.std.proofs.Common.{◌+◌, ◌%◌, ap, arith}
use Rattle.code.proofs.FoldLaws.{radius_twice}
use Rattle.wrapping.proofs.join.sum.Goals as goal

pub returns : goal.returns
returns c =
    ap (λ m. (c.args.a + c.args.b) % m) (omega (arith, c.radius.ensures.value, radius_twice c.args.width.bits (omega arith)))
