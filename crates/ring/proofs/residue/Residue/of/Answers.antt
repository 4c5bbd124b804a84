use Rattle.std.proofs.Common.{refl}
use Rattle.ring.specs.Residues.{residue_eq}
use Rattle.ring.proofs.residue.Residue.of.Goals as goal

pub returns : goal.returns
returns g c = residue_eq _ _ refl
