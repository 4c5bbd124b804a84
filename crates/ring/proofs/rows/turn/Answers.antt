use Rattle.std.proofs.Common.{◌≡◌, ◌<◌, length, rules}
use Rattle.ring.proofs.Steps.{turn_made, turned_none}
use Rattle.ring.proofs.rows.turn.Goals as goal

pub returns-then-is_empty : goal.returns-then-is_empty
returns-then-is_empty g c =
    let e : length c.args.row.now ≡ 0 = search rules in
    turned_none g.C.Coefficient.ring c.args.row.now e

pub returns : goal.returns
returns g c =
    let some : 0 < length c.args.row.now = search rules in
    turn_made g.C.Coefficient.ring c.args.row.now c.rotate_right.new.self _ _ _ _ some c.rotate_right.ensures.after
    c.index-row-0.is c.minus.ensures c.index-row-half.is c.plus.ensures
