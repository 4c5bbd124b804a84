use Rattle.reading.proofs.Rereading.{numbers_return}
use Rattle.reading.proofs.laws.numbers_return.Goals as goal

pub returns : goal.returns
returns c = numbers_return
