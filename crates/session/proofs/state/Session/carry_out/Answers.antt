use Rattle.std.proofs.Common.{sym, subst}
use Rattle.std.proofs.lemmas.Result.{MatchResult-weaker}
use Rattle.script.specs.declared.command.Command.{Command}
use Rattle.script.specs.declared.command.Command.TheVariants.{Commission, Station}
use Rattle.session.specs.Commands.{Carried}
use Rattle.session.specs.Hands.{at_hand}
use Rattle.session.specs.Said.{said}
use Rattle.session.proofs.Promising.{carried_keeps, result_keeps}
use Rattle.session.proofs.state.Session.carry_out.Goals as goal

pub returns-in-Commission : goal.returns-in-Commission
returns-in-Commission c =
    let before = at_hand c.args.self.now in
    let after = at_hand c.commission.new.self in
    let s = said c.commission.result in
    record {
      carried = subst (λ (command : Command). Carried before command s after) (sym c.in-Commission.is) c.commission.ensures;
      promised = carried_keeps before Commission s after c.commission.ensures;
    }

pub returns-in-Station : goal.returns-in-Station
returns-in-Station c =
    let before = at_hand c.args.self.now in
    let after = at_hand c.ask.new.self in
    record {
      carried =
          MatchResult-weaker c.ask.result c.ask.ensures
          (λ answer carried. subst (λ (command : Command). Carried before command (said answer) after) (sym c.in-Station.is) carried)
          (λ _ same. same);
      promised = result_keeps before (Station c.in-Station.request) after c.ask.result c.ask.ensures;
    }
