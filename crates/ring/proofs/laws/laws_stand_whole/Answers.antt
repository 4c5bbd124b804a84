use Rattle.ring.specs.Integers.{integers}
use Rattle.ring.proofs.Theorem.{product_laws}
use Rattle.ring.proofs.laws.laws_stand_whole.Goals as goal

pub returns : goal.returns
returns c = product_laws integers
