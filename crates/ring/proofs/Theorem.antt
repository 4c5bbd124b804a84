-- The laws of the product, put together.
use Rattle.ring.specs.Ring.{CommRing}
use Rattle.ring.specs.Integers.{integers}
use Rattle.ring.specs.Laws.{Laws, Carries}
use Rattle.ring.proofs.Products as p
use Rattle.ring.proofs.Homs.{map-product}
use Rattle.ring.proofs.Images.{image-map}
use Rattle.ring.proofs.Vanishing.{modulus_vanishes}

pub ring_map-carries : {C D : Type 0} (R : CommRing C) (S : CommRing D) → Carries R S
ring_map-carries R S f m n a b = map-product R S f m.zero m.add m.neg m.mul n a b

pub product_laws : {C : Type 0} (R : CommRing C) → Laws R
product_laws R n some = record {
  long = p.length-product R n some;
  keeps = record { one = p.unit-product R n some; turns = p.turn-product R n some; sums = p.plus-product R n some; multiples = p.times-product R n some };
  only = λ f k a b h g. p.only-product R n some f k.sums k.multiples k.one k.turns a b h g;
  comm = p.product-comm R n some;
  assoc = p.product-assoc R n some;
  carries = λ f m a b. ring_map-carries integers R f m n a b;
  maps = image-map R;
  vanishes = modulus_vanishes R n some;
}
