use Rattle.ring.proofs.WholeProducts.{whole_products}
use Rattle.ring.proofs.laws.engines_reduce.Goals as goal

pub returns : goal.returns
returns c = whole_products
