use Rattle.custody.specs.Ledger.{all_after}
use Rattle.custody.specs.Promise.{replies}
use Rattle.session.proofs.Answered.{same_answer, same_buffer}
use Rattle.session.proofs.calls.exchange.Goals as goal

pub returns : goal.returns
unfolding replies all_after
returns c =
    let r = c.first_reply.ensures in
    record {
      answers = same_answer _ _ _ _ r.replied;
      writes = same_buffer _ _ _ _ r.replied;
      post = r.post;
    }
