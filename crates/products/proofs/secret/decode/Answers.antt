use Rattle.std.proofs.Common.{length, take}
use Rattle.wrapping.specs.Wraps.{measured}
use Rattle.products.proofs.Reducing.{decoded_front}
use Rattle.products.proofs.secret.decode.Goals as goal

pub returns : goal.returns
returns g c =
    let n = c.args.n in
    let v = measured n (take n c.args.f.now) (take n c.args.c.now) in
    record {
      same = c.measured-row.ensures.same;
      writes = decoded_front n c.args.width c.measured-row.result v c.decode.new.out (length c.args.out.now) c.measured-row.ensures.value c.decode.ensures;
    }
