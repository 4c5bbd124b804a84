use Rattle.sealing.proofs.Returning.{comes_back}
use Rattle.sealing.proofs.feed.sealing_returns.Goals as goal

pub returns : goal.returns
returns c = comes_back
