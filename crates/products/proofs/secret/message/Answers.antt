use Rattle.std.proofs.Common.{◌≡◌, ℕ, ◌-◌, ◌/◌, ◌≤◌, List, length, take, drop, replicate, ap, ◌∙◌, arith, length-take}
use lib.ListN.{length-replicate}
use Rattle.code.specs.Rows.{decoded}
use Rattle.wrapping.specs.Wraps.{measured}
use Rattle.std.proofs.lemmas.List.{take_at}
use Rattle.products.proofs.secret.message.Goals as goal

pub returns : goal.returns
returns g c =
    let n = c.args.n in
    let one = c.decode.ensures in
    let zeros : List ℕ = replicate 64 0 in
    let low : n ≤ 1024 = c.requires.engine.2 in
    let long : length (take (n / 16 - 0) zeros) ≡ n / 16 = omega (arith, length-take (n / 16 - 0) zeros, length-replicate {A = ℕ} 64 0) in
    record {
      same = one.same;
      value = take_at c.decode.new.out (drop (n / 16 - 0) zeros) (n / 16) (c.decode.auto.out ∙ long)
          ∙ one.writes ∙ ap (decoded c.args.width.bits (measured n (take n c.args.f.now) (take n c.args.c.now))) long;
    }
