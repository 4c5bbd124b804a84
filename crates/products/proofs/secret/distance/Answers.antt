use Rattle.std.proofs.Common.{take}
use Rattle.wrapping.specs.Wraps.{measured}
use Rattle.products.proofs.Reducing.{farthest_front}
use Rattle.products.proofs.secret.distance.Goals as goal

pub returns : goal.returns
returns g c =
    let n = c.args.n in
    let v = measured n (take n c.args.f.now) (take n c.args.c.now) in
    record {
      same = c.measured-row.ensures.same;
      value = farthest_front n c.args.width c.measured-row.result v c.farthest.result c.args.message.now c.measured-row.ensures.value c.farthest.ensures;
    }
