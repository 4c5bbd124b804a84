use Rattle.std.proofs.Common.{◌≡◌, ◌^◌, ◌≤◌, length, take, ap, ◌∙◌, ap₂, arith, pow_mono, rules}
use Rattle.code.specs.Roots.{root_up}
use Rattle.code.specs.Rows.{farthest}
use Rattle.wrapping.specs.Wraps.{embedded_row, measured, sigma, allowance}
use Rattle.places.specs.Lines.{quiet}
use Rattle.places.specs.Lines.{candidate}
use Rattle.packing.proofs.Below.{below_higher}
use Rattle.products.proofs.Fronts.{take_all-below}
use Rattle.products.proofs.Embeddings.{wrapped-below, wrapped_front}
use Rattle.keying.proofs.Tellings.{ready_is, tells-same}
use Rattle.places.proofs.lines.deposited.Goals as goal

pub sigma-sigma-requires : goal.sigma-sigma-requires
sigma-sigma-requires g c =
    let key = c.args.key.now in
    let r = ready_is key.degree _ c.requires.engines in
    record {
      engine = (r.field_degree, r.field_modulus, key.size.1);
      rows = (take_all-below 3457 key.degree key.h key.h_below, c.requires.noise);
    }

pub distance-distance-requires : goal.distance-distance-requires
distance-distance-requires g c =
    let key = c.args.key.now in
    let w = c.args.width.bits in
    let r = ready_is key.degree _ c.requires.engines in
    let ls : length c.sigma-sigma.result ≡ 1024 = search rules in
    let high : w ≤ 11 = omega arith in
    record {
      engine = (r.binary_degree ∙ r.field_degree, r.binary_modulus, key.size.1);
      row = take_all-below 2048 key.degree c.embed.new.out
          (below_higher (2 ^ w) 2048 c.embed.new.out (pow_mono high)
          (wrapped-below w c.sigma-sigma.result c.args.message.now c.embed.new.out ls c.embed.ensures));
    }

pub quiet-requires : goal.quiet-requires
quiet-requires g c =
    let ls : length c.sigma-sigma.result ≡ 1024 = search rules in
    wrapped-below c.args.width.bits c.sigma-sigma.result c.args.message.now c.embed.new.out ls c.embed.ensures

pub returns : goal.returns
unfolding allowance
returns g c =
    let key = c.args.key.now in
    let n = key.degree in
    let w = c.args.width.bits in
    let m = c.args.message.now in
    let one = c.sigma-sigma.ensures in
    let two = c.distance-distance.ensures in
    let ls : length c.sigma-sigma.result ≡ 1024 = search rules in
    let row_is : take n c.embed.new.out ≡ embedded_row n w (sigma n (take n key.h) c.args.noise.now) m =
    wrapped_front n w c.sigma-sigma.result m c.embed.new.out ls key.size.1 c.embed.ensures ∙ ap (λ s. embedded_row n w s m) one.value in
    record {
      told = tells-same one.same.0 one.same.1 two.same.0 two.same.1;
      answers = c.quiet.ensures n
          ∙ ap₂ (λ row l. quiet (candidate w row l)) row_is
          (c.root_up.ensures ∙ ap root_up (two.value ∙ ap (λ row. farthest w (measured n (take n key.f) row) m) row_is));
    }
