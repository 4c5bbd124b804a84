use Rattle.std.proofs.Common.{refl, arith}
use Rattle.keying.proofs.KeyLaws.{tied_none}
use Rattle.keying.proofs.key.Key.unkeyed.Goals as goal

pub invariant_of-result : goal.invariant_of-result
invariant_of-result c = record {
  size = (refl, omega arith);
  f_cut = (refl, refl);
  g_cut = (refl, refl);
  h_cut = (refl, refl);
  f_small = refl;
  g_small = refl;
  h_below = refl;
  tied = tied_none;
}
