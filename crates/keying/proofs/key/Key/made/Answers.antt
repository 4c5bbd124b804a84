use Rattle.std.proofs.Common.{◌≤◌, length, refl, arith}
use Rattle.keying.proofs.KeyLaws.{padded_front, padded_cut, padded_small, tied_fronts}
use Rattle.keying.proofs.key.Key.made.Goals as goal

pub invariant_of-result : goal.invariant_of-result
invariant_of-result c =
    let f = c.args.f.now in
    let g = c.args.g.now in
    let n = length f in
    let all-f = c.padded.result in
    let all-g = c.padded-2.result in
    let hf : length f ≤ 1024 = c.requires.degree.0.1 in
    let hg : length g ≤ 1024 = omega (arith, c.requires.degree) in
    let lg = c.requires.degree.1 in
    record {
      size = c.requires.degree.0;
      f_cut = padded_cut f all-f hf c.padded.ensures n refl;
      g_cut = padded_cut g all-g hg c.padded-2.ensures n lg;
      h_cut = c.requires.row.0;
      f_small = padded_small f all-f hf c.padded.ensures c.requires.small.0;
      g_small = padded_small g all-g hg c.padded-2.ensures c.requires.small.1;
      h_below = c.requires.row.1;
      tied = tied_fronts n all-f all-g f g c.args.h (padded_front f all-f hf c.padded.ensures n refl) (padded_front g all-g hg c.padded-2.ensures n lg) c.requires.tied;
    }

pub returns : goal.returns
returns c =
    let f = c.args.f.now in
    let g = c.args.g.now in
    let hg : length g ≤ 1024 = omega (arith, c.requires.degree) in
    record {
      degree = refl;
      f_kept = padded_front f c.padded.result c.requires.degree.0.1 c.padded.ensures (length f) refl;
      g_kept = padded_front g c.padded-2.result hg c.padded-2.ensures (length f) c.requires.degree.1;
      h_kept = refl;
    }
