use Rattle.code.proofs.FoldLaws.{fold_folded, fold_differs, fold_is, fold-halves, fold_sum, fold_small, fold_same, fold_double}
use Rattle.code.proofs.Squares.{triangle}
use Rattle.code.proofs.WordLaws.{word_xor}
use Rattle.code.proofs.DistanceLaws.{nearest_best, sure, sure_best, robust}
use Rattle.code.proofs.Agreement.{distance_same, nearest_same, decoded_same, farthest_same}
use Rattle.code.proofs.Decoding.{decoded_near}
use Rattle.code.proofs.RootLaws.{root_least}
use Rattle.code.proofs.laws.laws.Goals as goal

pub returns : goal.returns
returns c = record {
  fold_range = fold_folded;
  fold_differs = fold_differs;
  fold_unique = fold_is;
  halves = fold-halves;
  fold_sum = fold_sum;
  fold_small = fold_small;
  fold_same = fold_same;
  fold_double = fold_double;
  triangle = triangle;
  word_xor = word_xor;
  nearest_best = nearest_best;
  sure = sure;
  strictly = sure_best;
  robust = robust;
  distance_same = distance_same;
  nearest_same = nearest_same;
  decoded_same = decoded_same;
  farthest_same = farthest_same;
  decoded_near = decoded_near;
  root_least = root_least;
}
