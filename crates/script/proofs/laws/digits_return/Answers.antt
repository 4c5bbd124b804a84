use Rattle.script.proofs.Returning.{digit_returns}
use Rattle.script.proofs.laws.digits_return.Goals as goal

pub returns : goal.returns
returns c = digit_returns
