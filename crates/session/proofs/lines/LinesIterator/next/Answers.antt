use Rattle.std.proofs.Common.{◌≡◌, ◌+◌, ◌≢◌, length, position, sym, refl, ◌∙◌, arith, rules}
use borrow.Author.Tests.{tests}
use Rattle.std.proofs.lemmas.Bool.{eqb-false}
use Rattle.std.proofs.lemmas.Iterator.{YieldsList-from_slice}
use Rattle.std.proofs.lemmas.Iterator.Search.{position_from_yields_List}
use Rattle.std.proofs.lemmas.List.{take_rest}
use Rattle.session.proofs.Breaks.{feed, broken, whole}
use Rattle.session.proofs.lines.LinesIterator.next.Goals as goal

pub returns-in-Some : goal.returns-in-Some
returns-in-Some c =
    let text = c.args.self.now.rest.now in
    let some : length text ≢ 0 = eqb-false (length text) 0 (sym c.if-is_empty.ensures) in
    let first : c.position.result ≡ position feed text =
    position_from_yields_List feed _ _ c.position.result c.position.ensures.ran (YieldsList-from_slice text cc) (λ x b q k. search (rules, tests)) in
    record {
      steps = broken text _ _ c.in-Some.i (omega arith) (sym first ∙ c.in-Some.is) (search rules) (take_rest text (c.in-Some.i + 1));
      goes = search rules;
    }

pub returns-in-None : goal.returns-in-None
returns-in-None c =
    let text = c.args.self.now.rest.now in
    let some : length text ≢ 0 = eqb-false (length text) 0 (sym c.if-is_empty.ensures) in
    let first : c.position.result ≡ position feed text =
    position_from_yields_List feed _ _ c.position.result c.position.ensures.ran (YieldsList-from_slice text cc) (λ x b q k. search (rules, tests)) in
    record {
      steps = whole text _ _ (omega arith) (sym first ∙ c.in-None.is) refl refl;
      goes = search rules;
    }
