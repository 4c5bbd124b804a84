use Rattle.std.proofs.Common.{◌≡◌, ◌-◌, length, take, arith}
use Rattle.wrapping.specs.Wraps.{sigma}
use Rattle.sealing.proofs.Wrappings.{wrapped-cut, wrapped_packs, wrapped_writes}
use Rattle.sealing.proofs.feed.wrap_into.Goals as goal

pub returns : goal.returns
returns g c =
    let n = c.args.n in
    let w = c.args.width.bits in
    let row = sigma n (take n c.args.h.now) c.args.noise.now in
    let message = c.args.message.now in
    let cut = take (n - 0) c.embed.new.out in
    let out = c.args.out.now in
    let long : length c.sigma-sigma.result ≡ 1024 = omega arith in
    let is = wrapped-cut n w c.sigma-sigma.result c.embed.new.out row message c.requires.engine.2 long c.sigma-sigma.ensures.value c.embed.ensures in
    record {
      same = c.sigma-sigma.ensures.same;
      obeyed =
          wrapped_packs n w c.bits.result cut out row message c.pack_row.result c.bits.ensures c.args.width.ok.0 c.args.width.ok.1 is c.requires.rows.2
          c.pack_row.ensures.answers;
      writes =
          wrapped_writes n w c.bits.result cut out row message c.pack_row.result c.bits.ensures c.args.width.ok.0 c.args.width.ok.1 is c.requires.rows.2
          c.pack_row.ensures.answers c.pack_row.new.out c.pack_row.ensures.writes;
    }
