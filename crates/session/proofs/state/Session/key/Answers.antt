use Rattle.std.proofs.Common.{sym, ◌∙◌}
use Rattle.session.proofs.Arms.{tried}
use Rattle.session.proofs.state.Session.key.Goals as goal

pub returns : goal.returns
returns c =
    tried c.args.self.now c.in-Some.draft c.key-reply.new.self c.key-reply.result c.args.f.now c.args.g.now _
    (sym c.take.ensures.value ∙ c.in-Some.is) c.key-reply.ensures.told c.key-reply.ensures.keyed c.answer.ensures
