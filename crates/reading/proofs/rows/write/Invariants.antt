use Rattle.std.proofs.Common.{◌≡◌}
use Rattle.reading.specs.Cuts.{cuts, parts_of, pieces_left}
use Rattle.reading.specs.Rows.{comma, terms_of}
use Rattle.reading.proofs.rows.write.Given as goal

abbrev pub invariant-loop-text : goal.invariant-loop-text
invariant-loop-text l =
    (goal.iterator-loop-text).can_next l.text-iterator
    × (goal.iterator-loop-text).is_finite l.text-iterator
    × (terms_of 0 l.initial.row (parts_of (cuts comma) l.terms) ≡ terms_of l.next l.row (pieces_left l.text-iterator))
