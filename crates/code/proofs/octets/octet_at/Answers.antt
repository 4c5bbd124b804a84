use Rattle.std.proofs.Common.{rules, ◌+◌, ◌*◌, pos, slice_index_or}
use Rattle.code.specs.Rows.{whole, octet}
use Rattle.code.proofs.Made.{made_same}
use Rattle.code.proofs.octets.octet_at.Goals as goal

pub returns : goal.returns
unfolding octet
returns c = made_same _ _ (λ j. slice_index_or (whole c.args.row.now) (8 * c.args.octet + j) (pos 0)) (pos 0) c.from_fn.result 8 (λ i y f' l k. search rules) c.from_fn.ensures.items
