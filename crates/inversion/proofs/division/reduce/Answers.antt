use Rattle.std.proofs.Common.{◌≡◌, ◌<◌, ◌≤◌, ◌-◌, suc, length, sym, refl, ap, ◌∙◌, arith}
use Rattle.inversion.specs.Division.{divided, along}
use Rattle.inversion.proofs.Divisions as d
use Rattle.inversion.proofs.division.reduce.Goals as goal

pub loop-i-init : goal.loop-i-init
loop-i-init g c = (refl, refl)

pub loop-i-preserved : goal.loop-i-preserved
loop-i-preserved g c =
    let R = g.C.Coefficient.ring in
    let a = c.loop-i.upper in
    let b = c.args.lower.now in
    let q = c.args.place in
    let i = c.loop-i.i in
    let x = c.index-upper-i.result in
    let above : q ≤ i = c.loop-i-test.true in
    let within : i < length a = omega arith in
    let k-is : c.minus-k.result ≡ R.neg (R.mul x c.args.scale) = c.minus-k.ensures ∙ ap R.neg c.times.ensures in
    let down : suc (i - 1) - q ≡ i - q = omega arith in (
      ap (divided R c.add_shifted.new.target b c.args.scale q) down
          ∙ d.divided_step R a b c.args.scale q i x c.minus-k.result above within c.index-upper-i.is k-is _ c.add_shifted.ensures ∙ c.loop-i.invariant.0,
      ap (along R c.add_shifted.new.target c.add_shifted-in-loop-i.new.target b c.args.lower_cofactor.now c.args.scale q) down
          ∙ d.along_step R a b c.args.scale q i x c.minus-k.result above within c.index-upper-i.is k-is c.loop-i.upper_cofactor c.args.lower_cofactor.now _ _
          c.add_shifted.ensures c.add_shifted-in-loop-i.ensures ∙ c.loop-i.invariant.1,
    )

pub returns : goal.returns
returns g c =
    let R = g.C.Coefficient.ring in
    record {
      row = sym (d.divided_none R c.loop-i.upper c.args.lower.now c.args.scale c.args.place (suc c.loop-i.i) c.loop-i-test.false) ∙ c.loop-i.invariant.0;
      beside =
          sym (d.along_none R c.loop-i.upper c.loop-i.upper_cofactor c.args.lower.now c.args.lower_cofactor.now c.args.scale c.args.place (suc c.loop-i.i)
          c.loop-i-test.false) ∙ c.loop-i.invariant.1;
    }

-- place q was the last
pub returns-2 : goal.returns-2
returns-2 g c =
    let R = g.C.Coefficient.ring in
    let a = c.loop-i.upper in
    let b = c.args.lower.now in
    let v = c.args.lower_cofactor.now in
    let q = c.args.place in
    let i = c.loop-i.i in
    let x = c.index-upper-i.result in
    let above : q ≤ i = c.loop-i-test.true in
    let within : i < length a = omega arith in
    let last : i ≤ q = omega arith in
    let k-is : c.minus-k.result ≡ R.neg (R.mul x c.args.scale) = c.minus-k.ensures ∙ ap R.neg c.times.ensures in
    record {
      row = sym (d.divided_none R c.add_shifted.new.target b c.args.scale q i last)
          ∙ d.divided_step R a b c.args.scale q i x c.minus-k.result above within c.index-upper-i.is k-is _ c.add_shifted.ensures ∙ c.loop-i.invariant.0;
      beside = sym (d.along_none R c.add_shifted.new.target c.add_shifted-in-loop-i.new.target b v c.args.scale q i last)
          ∙ d.along_step R a b c.args.scale q i x c.minus-k.result above within c.index-upper-i.is k-is c.loop-i.upper_cofactor v _ _
          c.add_shifted.ensures c.add_shifted-in-loop-i.ensures ∙ c.loop-i.invariant.1;
    }
