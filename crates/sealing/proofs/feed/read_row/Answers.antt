use Rattle.std.proofs.Common.{◌-◌}
use borrow.Rule.Slice.PartMut.{post_of}
use Rattle.sealing.proofs.Packings.{row_obeys, row_front}
use Rattle.sealing.proofs.feed.read_row.Goals as goal

pub returns : goal.returns
returns c =
    let n = c.args.n in
    let w = c.args.width.bits in
    let row = c.args.c.now in
    let new = c.unpack_row.new.out in
    let rest = post_of 0 (n - 0) row in
    let r = c.unpack_row.result in
    let bytes = c.args.bytes.now in
    let obeyed =
    row_obeys n row new rest c.requires.0 c.told-c c.unpack_row.auto.out w c.bits.result r bytes c.bits.ensures c.args.width.ok.0 c.args.width.ok.1 c.requires.1
    c.unpack_row.ensures.answers in
    record {
      obeyed = obeyed;
      writes = row_front n row new rest c.requires.0 c.told-c c.unpack_row.auto.out w c.bits.result r bytes c.bits.ensures obeyed c.unpack_row.ensures.writes;
    }
