use Rattle.std.proofs.Common.{◌≡◌, ℕ, replicate, vec_items, ◌∙◌}
use Rattle.session.specs.Hands.{post}
use Rattle.session.proofs.Asking.{asked-said, asked-left}
use Rattle.session.proofs.calls.carry_out.Goals as goal

pub returns : goal.returns
returns c =
    let p = post c.args.station.now in
    let request = c.args.request in
    let call = c.call_of.result in
    let same = c.call_of.ensures in
    let n = c.length_for-length.result in
    let old = vec_items c.in_ok-buffer.buffer in
    let zeros : old ≡ replicate {A = ℕ} n 0 = c.in_ok-buffer.ensures.items_if_clones_equal (λ y e. e) in
    let r = c.exchange-reply.ensures in (
      c.answer_of.ensures
          ∙ asked-said p request call same c.exchange-reply.result.0 (vec_items c.exchange-reply.result.1) old n
          c.length_for-length.ensures zeros r.answers r.writes,
      asked-left p request call same _ r.post,
    )
