use Rattle.std.proofs.Common.{◌≡◌, ℕ, not, leb, ltb, position, ◌&&◌, is_none, refl, ap, ◌∙◌, rules, tests, arith}
use Rattle.std.proofs.lemmas.Bool.Decides.{nat_tests}
use Rattle.std.proofs.lemmas.Iterator.{YieldsList-from_slice}
use Rattle.std.proofs.lemmas.Iterator.Search.{position_from_yields_List}
use Rattle.ring.specs.Engines.{all_below}
use Rattle.ring.proofs.Searches.{none_fails}
use Rattle.ring.proofs.engine.below.Goals as goal

low : (m x : ℕ) → ltb x m ≡ not (leb m x)
low m x = grind (arith, nat_tests)

pub returns : goal.returns
returns c =
    let m = c.args.m in
    let row = c.args.row.now in
    let first : c.position.result ≡ position (λ x. leb m x) row =
    position_from_yields_List (λ x. leb m x) _ _ c.position.result c.position.ensures.ran (YieldsList-from_slice row cc) (λ x b q k. search (rules, tests)) in
    let none = none_fails (λ x. leb m x) (all_below m) refl (λ x xs. ap (λ b. b && all_below m xs) (low m x)) row in
    let e = ap is_none first ∙ none in grind (arith, e, c.is_none.ensures)
