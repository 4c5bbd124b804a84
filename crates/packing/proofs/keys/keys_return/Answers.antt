use Rattle.packing.proofs.KeyTrips.{keys_return}
use Rattle.packing.proofs.keys.keys_return.Goals as goal

pub returns : goal.returns
returns c = keys_return
