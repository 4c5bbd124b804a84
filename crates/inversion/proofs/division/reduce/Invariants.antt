use Rattle.std.proofs.Common.{◌≡◌, suc, ◌-◌}
use Rattle.inversion.specs.Division.{divided, along}
use Rattle.inversion.proofs.division.reduce.Given as goal

abbrev pub invariant-loop-i : goal.invariant-loop-i
invariant-loop-i g l =
    let R = g.C.Coefficient.ring in
    (divided R l.upper l.lower l.scale l.place (suc l.i - l.place)
    ≡ divided R l.initial.upper l.lower l.scale l.place (suc l.top - l.place))
    × (along R l.upper l.upper_cofactor l.lower l.lower_cofactor l.scale l.place (suc l.i - l.place)
    ≡ along R l.initial.upper l.initial.upper_cofactor l.lower l.lower_cofactor l.scale l.place (suc l.top - l.place))
