use Rattle.std.proofs.Common.{ℕ, List, [], ◌∷◌, take, vec_items, Option, sym, ap, ◌∙◌, ap₂, arith}
use Rattle.places.specs.Replies.{Reply}
use Rattle.custody.specs.declared.call.Answer.{Answer}
use Rattle.custody.specs.Promise.{Replied}
use Rattle.session.proofs.Answered.{never_silent, first_of}
use Rattle.session.proofs.Arms.{moved}
use Rattle.session.proofs.calls.first_reply.Goals as goal

pub unreachable-requires : goal.unreachable-requires
unreachable-requires c =
    never_silent c.carry_out.new.exchanges _ _ c.carry_out.ensures.replied (omega (arith, c.carry_out.auto.exchanges, c.requires)) c.in-None.is

pub returns : goal.returns
returns c =
    let xs = c.carry_out.new.exchanges in
    let r = c.carry_out.ensures in
    let pair : Option (Reply Answer) → List ℕ → List Replied = λ a b. (a, b) ∷ [] in
    record {
      replied = ap₂ pair (sym c.in-Some.is) (ap vec_items c.replace-buffer.ensures.value)
          ∙ sym (first_of xs c.index-list-0.result c.index-list-0-2.result (omega (arith, c.carry_out.auto.exchanges, c.requires))) ∙ ap (take 1) r.replied;
      post = moved c.args.station.now c.carry_out.new.self _ r.leaves.0 r.leaves.1 r.leaves.2;
    }
