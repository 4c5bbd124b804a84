-- What a bit reader has still to give.
use Rattle.std.specs.Prelude.{ℕ, ◌+◌, ◌*◌, ◌^◌, length}
use Rattle.packing.specs.declared.bits.BitReader.{BitReader}
use Rattle.packing.specs.Digits.{value}

-- the number that the bits still to come make, low bits first
abbrev pub unread : BitReader → ℕ
unread r = r.pending.number + 2 ^ r.pending.count * value 256 r.bytes.now

-- how many bits are still to come
abbrev pub left : BitReader → ℕ
left r = r.pending.count + 8 * length r.bytes.now
