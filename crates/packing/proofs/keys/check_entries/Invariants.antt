use Rattle.std.proofs.Common.{◌≡◌, ◌-◌, ◌*◌}
use Rattle.ring.specs.Engines.{all_below}
use Rattle.packing.specs.Digits.{digits, unpacked}
use Rattle.packing.specs.Reading.{unread, left}
use Rattle.packing.proofs.keys.check_entries.Given as goal

abbrev pub invariant-loop : goal.invariant-loop
invariant-loop l =
    (all_below 3457 (unpacked 12 l.n l.bytes) ≡ all_below 3457 (digits 4096 (l.n - l.counter) (unread l.reader)))
    × (left l.reader ≡ (l.n - l.counter) * 12)
