use Rattle.std.proofs.Common.{length, ap, rules, tests}
use Rattle.std.proofs.lemmas.Iterator.{IsFirst-from_position}
use Rattle.inversion.specs.Leading.{Highest}
use Rattle.inversion.proofs.Highest.{highest_leading}
use Rattle.inversion.proofs.FromBack.{back, from_end, counted, highest, Zero, NonZero}
use Rattle.std.specs.Slice.Iter.{iter_rest}
use Rattle.inversion.proofs.leading.leading.Goals as goal

pub returns : goal.returns
returns c =
    let row = c.args.row.now in
    let r = c.rposition.result in
    let n = length (iter_rest c.iter.result) in
    let ran = c.rposition.ensures.ran in
    let h : Highest row r =
    highest row n r (ap length c.iter.ensures.rest) c.rposition.ensures.bound
    (IsFirst-from_position _ _ (from_end n r) NonZero Zero (ran.0, ran.1, ran.2, ran.3, ran.4, counted _ n (length ran.0) ran.1 r ran.5)
    (back row c.iter.ensures.rest) (λ x q k. search (rules, tests)) (λ x q k. search (rules, tests))) in
    record { is = highest_leading row r h; means = h }
