use Rattle.std.proofs.Common.{◌≡◌, ◌+◌, ◌-◌, ◌/◌, ◌^◌, [], map, length, take, ap, ◌∙◌, ap₂, arith, lit≤, rules}
use Rattle.std.proofs.lemmas.List.{take-map}
use Rattle.ring.specs.Engines.{all_below}
use Rattle.code.specs.Roots.{root_up}
use Rattle.code.specs.Rows.{farthest}
use Rattle.wrapping.specs.Trims.{halved, halving, trim_loss, trimmed_allowance}
use Rattle.wrapping.specs.Wraps.{measured}
use Rattle.places.specs.Lines.{quiet}
use Rattle.places.specs.Lines.{candidate}
use Rattle.packing.proofs.Below.{below_higher}
use Rattle.products.proofs.Fronts.{take_all-below}
use Rattle.places.proofs.RowParts.{halvings_below, halved-below, halvings_is}
use Rattle.places.proofs.lines.shortened.Goals as goal

pub distance-distance-requires : goal.distance-distance-requires
distance-distance-requires g c =
    let key = c.args.key.now in
    let row = c.args.filled.coefficients in
    let l : length row ≡ 1024 = search rules in
    record {
      engine = (c.requires.engine.0, c.requires.engine.1, key.size.1);
      row = take_all-below 2048 key.degree c.halvings.new.out
          (below_higher 2 2048 c.halvings.new.out (lit≤ tt)
          (ap (all_below 2) (halvings_is row c.halvings.new.out l c.halvings.ensures) ∙ halvings_below row));
    }

pub quiet-requires : goal.quiet-requires
quiet-requires g c =
    let row = c.args.filled.coefficients in
    let w = c.args.filled.width.bits in
    let e : c.args.width.bits ≡ w - 1 = omega (arith, c.requires.width) in
    ap₂ (λ k r. all_below (2 ^ k) r) e c.halve.ensures ∙ halved-below w row

pub returns : goal.returns
unfolding trim_loss trimmed_allowance
returns g c =
    let key = c.args.key.now in
    let n = key.degree in
    let row = c.args.filled.coefficients in
    let w = c.args.filled.width.bits in
    let two = c.distance-distance.ensures in
    let l : length row ≡ 1024 = search rules in
    let e : c.args.width.bits ≡ w - 1 = omega (arith, c.requires.width) in
    let halvings-are : take n c.halvings.new.out ≡ map halving (take n row) =
    ap (take n) (halvings_is row c.halvings.new.out l c.halvings.ensures) ∙ take-map halving n row in
    let loss_is : c.root_up-loss.result ≡ root_up (farthest w (measured n (take n key.f) (map halving (take n row))) []) =
    c.root_up-loss.ensures ∙ ap root_up (two.value ∙ ap (λ r. farthest w (measured n (take n key.f) r) []) halvings-are) in
    record {
      same = two.same;
      answers = c.quiet.ensures n
          ∙ ap₂ (λ k r. quiet (candidate k r ((c.args.filled.allowance + c.root_up-loss.result + 1) / 2))) e (ap (take n) c.halve.ensures ∙ take-map (halved w) n row)
          ∙ ap (λ x. quiet (candidate (w - 1) (map (halved w) (take n row)) ((c.args.filled.allowance + x + 1) / 2))) loss_is;
    }
