use Rattle.std.proofs.Common.{◌≡◌, ◌+◌, ◌*◌, ◌^◌, ◌<◌, true, length}
use Rattle.ring.specs.Engines.{all_below}
use Rattle.std.specs.Slice.Iter.{iter_rest}
use Rattle.packing.specs.Digits.{value}
use Rattle.packing.proofs.Filling.{Filling}
use Rattle.packing.proofs.Streams.{stream}
use Rattle.packing.proofs.rows.write_row.Given as goal

abbrev pub invariant-loop-place : goal.invariant-loop-place
invariant-loop-place l =
    Filling 256 l.out l.place-index (stream l.pending.number l.pending.count l.width.bits (iter_rest l.numbers)) (value (2 ^ l.width.bits) l.row)
    × (8 * l.place-index + l.pending.count + l.width.bits * length (iter_rest l.numbers) ≡ 8 * length l.out)
    × (all_below (2 ^ l.width.bits) (iter_rest l.numbers) ≡ true)
    × (l.pending.count < 12)
