use Rattle.std.proofs.Common.{refl}
use Rattle.session.proofs.Arms.{began}
use Rattle.session.proofs.state.Session.begin.Goals as goal

pub returns : goal.returns
returns c = record {
  says = refl;
  begun = began c.args.field c.args.binary c.new.result c.new-2.result c.new-3.result c.degree-self.result
      c.degree-self.ensures c.new.ensures.over c.new-2.ensures.over
      c.new-3.ensures.key c.new-3.ensures.field c.new-3.ensures.binary;
}
