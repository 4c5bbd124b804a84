use Rattle.custody.proofs.Keeping.{keeps}
use Rattle.custody.proofs.promise.matching_keeps.Goals as goal

pub returns : goal.returns
returns c = keeps
