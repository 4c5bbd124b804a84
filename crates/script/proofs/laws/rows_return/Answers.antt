use Rattle.script.proofs.Restoring.{rows_return}
use Rattle.script.proofs.laws.rows_return.Goals as goal

pub returns : goal.returns
returns c = rows_return
