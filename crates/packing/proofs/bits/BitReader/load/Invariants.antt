use Rattle.std.proofs.Common.{◌≡◌, ◌-◌}
use Rattle.packing.specs.Reading.{unread, left}
use Rattle.packing.proofs.bits.BitReader.load.Given as goal

abbrev pub invariant-loop-self : goal.invariant-loop-self
invariant-loop-self l = (unread l.self ≡ unread l.initial.self) × (left l.self ≡ left l.initial.self)

abbrev pub decreases-loop-self : goal.decreases-loop-self
decreases-loop-self l = 20 - l.self.pending.count
