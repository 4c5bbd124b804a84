use Rattle.std.proofs.Common.{◌-◌, arith, pow_mono}
use Rattle.code.specs.Widths.{radius}
use Rattle.code.proofs.width.Width.radius.Goals as goal

pub returns : goal.returns
unfolding radius
returns c = omega (arith, pow_mono {i = 7} {j = c.args.self.bits - 1} (omega arith), pow_mono {i = c.args.self.bits - 1} {j = 10} (omega arith))
