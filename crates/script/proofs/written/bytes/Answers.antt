use Rattle.std.proofs.Common.{refl}
use Rattle.script.proofs.Listing.{hex_more, hex_done}
use Rattle.script.proofs.Writing.{written-more, written_all}
use Rattle.script.proofs.written.bytes.Goals as goal

pub loop-value-preserved : goal.loop-value-preserved
loop-value-preserved g c =
    written-more g.W.Write.write_str_gives _ _ _ _ _ _ _ c.loop-value.invariant
    (hex_more c.args.values.now c.loop-value.value-index c.loop-value-test.true)
    (λ plain. c.in_ok-byte.ensures plain refl)

pub returns : goal.returns
returns g c plain ok =
    written_all g.W.Write.write_str_gives _ _ _ _ c.loop-value.invariant
    (hex_done c.args.values.now c.loop-value.value-index c.loop-value-test.false)
    plain
