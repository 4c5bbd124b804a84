use Rattle.script.proofs.Returning.{bytes_return}
use Rattle.script.proofs.laws.bytes_return.Goals as goal

pub returns : goal.returns
returns c = bytes_return
