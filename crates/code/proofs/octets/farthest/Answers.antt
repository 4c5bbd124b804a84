use Rattle.std.proofs.Common.{◌≡◌, ℕ, ◌/◌, ap, ◌∙◌, refl, pos, length, Option, Some, None, arith, rules}
use Rattle.std.specs.Option.{unwrap_or, option_map}
use Rattle.std.proofs.lemmas.List.{length-map}
use Rattle.std.proofs.lemmas.Iterator.{YieldsList-from_range, YieldsList-from_map}
use Rattle.std.proofs.lemmas.Iterator.Consumers.{max_from_yields_List, YieldsList-at}
use Rattle.code.specs.Distances.{distance}
use Rattle.code.specs.Messages.{number}
use Rattle.code.specs.Rows.{whole, octet, greatest, farthest}
use Rattle.code.proofs.Greatest.{greatest_or_zero}
use Rattle.code.proofs.octets.farthest.Goals as goal

or_same : (o : Option ℕ) → unwrap_or o 0 ≡ unwrap_or (option_map (λ x. x) o) 0
or_same None = refl
or_same (Some x) = refl

pub returns : goal.returns
unfolding farthest
returns c =
    let n = length c.args.row.now / 8 in
    let f : ℕ → ℕ = λ i. distance c.args.width.bits (octet (whole c.args.row.now) i) (number c.args.message.now i) in
    let given = YieldsList-at c.map.ensures.source (YieldsList-from_range 0 n n refl (omega arith)) in
    let top = max_from_yields_List c.map.result c.max.result c.max.ensures.ran (YieldsList-from_map _ f given c.map.ensures.closure (λ x r q k. search rules)) in
    c.unwrap_or.ensures ∙ or_same c.max.result ∙ ap (λ o. unwrap_or o 0) top ∙ greatest_or_zero f n ∙ ap (greatest f) (omega (arith, length-map c.args.row.now pos))
