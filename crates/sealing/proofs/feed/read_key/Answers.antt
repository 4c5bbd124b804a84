use Rattle.std.proofs.Common.{◌-◌}
use borrow.Rule.Slice.PartMut.{post_of}
use Rattle.sealing.proofs.Packings.{key_answer_is, key_front}
use Rattle.sealing.proofs.feed.read_key.Goals as goal

pub returns : goal.returns
returns c =
    let n = c.args.n in
    let row = c.args.h.now in
    let new = c.unpack_key.new.out in
    let rest = post_of 0 (n - 0) row in
    record {
      answers = key_answer_is n row new rest c.requires c.told-h c.unpack_key.auto.out c.unpack_key.result c.args.key.now c.unpack_key.ensures.answers;
      writes = key_front n row new rest c.requires c.told-h c.unpack_key.auto.out c.unpack_key.result c.args.key.now c.unpack_key.ensures.writes;
    }
