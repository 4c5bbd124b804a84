use Rattle.std.proofs.Common.{ℕ, ◌+◌, ◌*◌, ◌^◌, ◌<◌, ◌≢◌, length, pos, ap, arith, rules, below_more}
use Rattle.std.proofs.lemmas.List.FromFn.{fill_by_all}
use Rattle.std.proofs.lemmas.List.{get_or-set_same, get_or-set_other, length-map}
use Rattle.code.specs.Distances.{nearest}
use Rattle.code.specs.Rows.{whole, decoded_byte, decoded}
use Rattle.code.proofs.RowLaws.{octet_saturated}
use Rattle.code.proofs.octets.decode.Goals as goal

pub loop-j-preserved : goal.loop-j-preserved
loop-j-preserved c =
    let l : length c.args.row.now < 2 ^ 64 = search rules in
    let v : length (whole c.args.row.now) < 2 ^ 64 = omega (arith, length-map c.args.row.now pos) in
    let lt : c.loop-j.j < length c.loop-j.out = omega arith in
    let w : ℕ = c.args.width.bits in
    below_more _ _
    (λ k h. let ne : k ≢ c.loop-j.j = omega arith in rw get_or-set_other (c.loop-j.invariant k h))
    (rw get_or-set_same (omega (
      arith,
      c.value.ensures,
      c.value-in-loop-j.ensures,
      c.read-low.ensures,
      c.read-high.ensures,
      ap (nearest w) (octet_saturated (whole c.args.row.now) c.saturating_mul-first.result (2 * c.loop-j.j) v (omega (arith, c.saturating_mul-first.ensures))),
      ap (nearest w) (octet_saturated (whole c.args.row.now) c.saturating_add.result (2 * c.loop-j.j + 1) v (omega (arith, c.saturating_mul-first.ensures, c.saturating_add.ensures))),
    )))

pub returns : goal.returns
unfolding decoded
returns c = fill_by_all (decoded_byte c.args.width.bits (whole c.args.row.now)) c.loop-j.out (length c.args.out.now) 0 c.loop-j.auto.out (λ k h. c.loop-j.invariant k (omega arith))
