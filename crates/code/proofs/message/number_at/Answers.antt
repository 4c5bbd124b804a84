use Rattle.std.proofs.Common.{◌≡◌, ◌/◌, ◌<◌, slice_index_or, ap, ◌∙◌, arith, rules}
use Rattle.std.specs.Option.{unwrap_or}
use Rattle.code.proofs.Looked.{item_or_zero}
use Rattle.code.proofs.MessageLaws.{number_even, number_odd}
use Rattle.code.proofs.message.number_at.Goals as goal
use Rattle.code.proofs.message.number_at.Goals.{then-octet-eq0, else-octet-eq0}

pub returns : goal.returns
returns c =
    let e : c.unwrap_or-byte.result ≡ slice_index_or c.args.message.now (c.args.octet / 2) 0 =
    c.unwrap_or-byte.ensures ∙ ap (λ o. unwrap_or o 0) c.copied.ensures ∙ item_or_zero c.args.message.now (c.args.octet / 2) _ c.get.ensures.lookup in
    let f : c.unwrap_or-byte.result < 256 = search rules in
    elim c.if-octet-eq0.branch [
      | then-octet-eq0 w ↦ omega (arith, e, w.value-is, number_even c.args.message.now c.args.octet w.if-octet-eq0.true)
      | else-octet-eq0 w ↦ omega (arith, e, w.value-is, number_odd c.args.message.now c.args.octet (omega (arith, w.if-octet-eq0.false)))
    ]
