use Rattle.inversion.proofs.Fillings.{added_part, added_past}
use Rattle.inversion.proofs.division.add_shifted.Goals as goal

pub returns-then-shift-target : goal.returns-then-shift-target
returns-then-shift-target g c =
    added_part g.C.Coefficient.ring c.args.shift c.args.target.now c.args.k c.args.row.now c.add_multiple.new.target c.add_multiple.ensures

pub returns-else-shift-target : goal.returns-else-shift-target
returns-else-shift-target g c = added_past g.C.Coefficient.ring c.args.shift c.args.target.now c.args.k c.args.row.now c.if-shift-target.false
