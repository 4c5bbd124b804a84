use Rattle.custody.proofs.Keeping.{upholds}
use Rattle.custody.proofs.promise.matching_upholds.Goals as goal

pub returns : goal.returns
returns c = upholds
