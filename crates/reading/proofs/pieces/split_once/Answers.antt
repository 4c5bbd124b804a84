use Rattle.std.proofs.Common.{◌≡◌, ◌+◌, ◌≤◌, length, position, refl, sym, arith, rules}
use Rattle.std.proofs.lemmas.Slice.{between_to_end}
use borrow.Author.Tests.{tests}
use Rattle.std.proofs.lemmas.Iterator.{YieldsList-from_slice}
use Rattle.std.proofs.lemmas.Iterator.Search.{position_from_yields_List}
use Rattle.reading.specs.Cuts.{cuts}
use Rattle.reading.proofs.Cutting.{split_first}
use Rattle.reading.proofs.pieces.split_once.Goals as goal

pub returns-in_err-i : goal.returns-in_err-i
returns-in_err-i c =
    let text = c.args.text.now in
    let p = cuts c.args.separator in
    let first : c.position.result ≡ position p text =
    position_from_yields_List p _ _ c.position.result c.position.ensures.ran (YieldsList-from_slice text cc) (λ x b q k. search (rules, tests)) in
    rw (c.from_residual.ensures, split_first p text, sym first, c.in_err-i.was) refl

pub returns : goal.returns
returns c =
    let text = c.args.text.now in
    let p = cuts c.args.separator in
    let first : c.position.result ≡ position p text =
    position_from_yields_List p _ _ c.position.result c.position.ensures.ran (YieldsList-from_slice text cc) (λ x b q k. search (rules, tests)) in
    let end : length text ≤ length text = omega arith in
    rw (split_first p text, sym first, c.in_ok-i.was, between_to_end text (c.in_ok-i.i + 1) (length text)) refl
