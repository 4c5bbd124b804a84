use Rattle.ring.proofs.Theorem.{product_laws}
use Rattle.ring.proofs.laws.laws_stand.Goals as goal

pub returns : goal.returns
returns g c = product_laws g.C.Coefficient.ring
