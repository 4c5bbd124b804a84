use Rattle.std.proofs.Common.{◌≡◌, replicate, pos, Ok, ap, ◌∙◌, inr, arith, rules}
use Rattle.std.proofs.lemmas.List.{with_items_is}
use Rattle.reading.proofs.rows.numbers_of.Goals as goal

pub returns : goal.returns
returns c =
    let row = c.in_ok-row.row in
    let filled = with_items_is row c.write.new.row (omega (arith, c.write.auto.row, c.as_mut_slice.ensures.len)) in
    let zeros : row.items ≡ replicate c.in_ok-length.length (pos 0) = search rules in
    let head = c.in_ok-length.ensures in
    let wrote = c.in_ok-write.ensures in
    let lent = c.as_mut_slice.ensures.value in
    inr (ap Ok filled ∙ grind arith)
