use Rattle.std.proofs.Common.{◌≡◌, ◌-◌, ◌*◌, ◌^◌, length}
use Rattle.packing.specs.Digits.{value}
use Rattle.packing.specs.Reading.{unread, left}
use Rattle.packing.proofs.Filling.{Filling}
use Rattle.packing.proofs.rows.read_row.Given as goal

abbrev pub invariant-loop-place : goal.invariant-loop-place
invariant-loop-place l =
    Filling (2 ^ l.width.bits) l.out l.place-index (unread l.reader) (value 256 l.bytes)
    × (left l.reader ≡ (length l.out - l.place-index) * l.width.bits)
