use Rattle.std.proofs.Common.{rules, ap, ◌∙◌, ◌/◌, ◌^◌, bit_and, slice_index_or}
use Rattle.code.proofs.Made.{made_same}
use Rattle.code.proofs.WordLaws.{unpacked, unpacked-mask}
use Rattle.code.proofs.words.word.Goals as goal

pub returns : goal.returns
returns c =
    made_same _ _ (λ i. bit_and (slice_index_or c.table_rule-table.result c.args.number.value 0 / 2 ^ i) 1) 0 c.from_fn.result 8 (λ i y f' l k. search rules) c.from_fn.ensures.items
    ∙ ap unpacked (c.table_rule-table.ensures.rows c.args.number.value c.args.number.small) ∙ unpacked-mask c.args.number.value c.args.number.small
