use Rattle.packing.proofs.Trips.{round_trips}
use Rattle.packing.proofs.rows.round_trips.Goals as goal

pub returns : goal.returns
returns c = round_trips
