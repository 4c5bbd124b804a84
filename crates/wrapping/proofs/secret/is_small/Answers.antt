use Rattle.std.proofs.Common.{◌≡◌, Bool, true, false, not, leb, ◌&&◌, nat_abs, position, is_none, refl, ap, ◌∙◌, rules, tests, arith}
use Rattle.std.proofs.lemmas.Iterator.{YieldsList-from_slice}
use Rattle.std.proofs.lemmas.Iterator.Search.{position_from_yields_List}
use Rattle.ring.proofs.Searches.{none_fails}
use Rattle.wrapping.specs.Secrets.{all_small}
use Rattle.wrapping.proofs.secret.is_small.Goals as goal

twice : (b : Bool) → b ≡ not (not b)
twice true = refl
twice false = refl

pub returns : goal.returns
returns c =
    let row = c.args.row.now in
    let first : c.position.result ≡ position (λ z. not (leb (nat_abs z) 6)) row =
    position_from_yields_List (λ z. not (leb (nat_abs z) 6)) _ _ c.position.result c.position.ensures.ran (YieldsList-from_slice row cc) (λ x b q k. search (rules, tests)) in
    let none = none_fails (λ z. not (leb (nat_abs z) 6)) all_small refl (λ z zs. ap (λ b. b && all_small zs) (twice (leb (nat_abs z) 6))) row in
    let e = ap is_none first ∙ none in grind (arith, e, c.is_none.ensures)
