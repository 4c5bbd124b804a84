use Rattle.ring.proofs.Theorem.{ring_map-carries}
use Rattle.ring.proofs.laws.maps_carry.Goals as goal

pub returns : goal.returns
returns g c = ring_map-carries g.C.Coefficient.ring g.D.Coefficient.ring
