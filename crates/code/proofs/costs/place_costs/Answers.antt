use Rattle.std.proofs.Common.{◌≡◌, ℕ, ◌<◌, nat_abs, ap, ◌∙◌, arith, w32, SFits, rules}
use Rattle.std.proofs.lemmas.Int.{to_z-of_z}
use Rattle.code.specs.Widths.{radius}
use Rattle.code.specs.Folds.{fold}
use Rattle.code.proofs.FoldLaws.{fold_bound, radius-pos}
use Rattle.code.proofs.DistanceLaws.{cost_of_zero, cost_of_one}
use Rattle.code.proofs.costs.place_costs.Goals as goal

pub returns : goal.returns
returns c =
    let r : ℕ = radius c.args.width.bits in
    let h : 0 < r = radius-pos c.args.width.bits in
    let f : SFits w32 c.fold.result = search rules in
    let n : c.unsigned_abs-n.result ≡ nat_abs (fold r c.args.x) =
    c.unsigned_abs-n.ensures.value ∙ ap nat_abs (to_z-of_z w32 c.fold.result f ∙ c.fold.ensures.value ∙ ap (fold r) (to_z-of_z w32 c.args.x c.ranges.x)) in
    record {
      zero = omega (arith, c.square.ensures.value, cost_of_zero r c.args.x c.unsigned_abs-n.result n);
      one = c.square-2.ensures.value ∙ cost_of_one r c.args.x _ h (omega (arith, n, fold_bound r c.args.x h, c.radius-r.ensures.value));
      small = (c.square.ensures.small, c.square-2.ensures.small);
    }
