use Rattle.std.proofs.Common.{◌≡◌, ◌*◌, ◌≤◌, length, take}
use Rattle.code.specs.Widths.{radius}
use Rattle.code.specs.Words.{word}
use Rattle.code.proofs.DistanceLaws.{gap}
use Rattle.code.proofs.distance.distance.Given as goal

abbrev pub invariant-loop-x : goal.invariant-loop-x
invariant-loop-x l =
    (l.sum ≤ 2097152 * length l.yielded) × (length l.yielded ≤ 8)
    × (l.sum ≡ gap (radius l.width.bits) (take (length l.yielded) l.fn.octet) (take (length l.yielded) (word l.fn.number.value)))
