use Rattle.std.proofs.Common.{◌∙◌, arith}
use Rattle.packing.proofs.Streams.{loaded}
use Rattle.packing.proofs.bits.BitReader.load.Goals as goal

pub loop-self-preserved : goal.loop-self-preserved
loop-self-preserved c =
    let before = c.loop-self.self in
    let parts = c.in-Some.ensures.cases in
    let after = c.load.ensures in (
      loaded before.pending.number before.pending.count 8 c.in-Some.byte.now _ _ before.bytes.now c.in-Some.rest.now parts.0 after.number after.count
          ∙ c.loop-self.invariant.0,
      omega (arith, parts.1, after.count, c.loop-self.invariant.1),
    )
