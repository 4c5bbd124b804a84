use Rattle.std.proofs.Common.{◌+◌, get_or, drop, pos, vec_items, ap, ◌∙◌, inr, append-nil, arith, w32, SFits, rules}
use Rattle.std.proofs.lemmas.Int.{to_z-of_z}
use Rattle.reading.specs.Rows.{each}
use Rattle.reading.proofs.Narrowing.{each_more, each_stops, each-done}
use Rattle.reading.proofs.Stepping.{handed_on, seen_push}
use Rattle.reading.proofs.rows.narrowed.Goals as goal

pub returns-in_err-of : goal.returns-in_err-of
returns-in_err-of g c =
    let reads = g.C.Coefficient.reads in
    let row = c.args.row.now in
    let i = c.loop-value.value-index in
    let fits : SFits w32 (get_or row i (pos 0)) = search rules in
    let stop = c.in_err-of.ensures ∙ ap reads (to_z-of_z w32 (get_or row i (pos 0)) fits) in
    let stops = each_stops reads row (vec_items c.loop-value.out) i (pos 0) c.in_err-of.field-0.0 c.loop-value-test.true c.loop-value.invariant stop in
    let out = handed_on c.from_residual.result c.from_residual.ensures.1 in
    inr (rw (out, stops))

pub loop-value-preserved : goal.loop-value-preserved
loop-value-preserved g c =
    let reads = g.C.Coefficient.reads in
    let row = c.args.row.now in
    let i = c.loop-value.value-index in
    let step = each_more reads row i (pos 0) c.loop-value-test.true in
    let next = c.in_ok-of.ensures in
    let was = c.in_ok-push.was in
    let push = seen_push (vec_items c.loop-value.out) c.in_ok-of.field-0 (each reads (drop (i + 1) row)) in
    grind arith

pub returns : goal.returns
returns g c =
    let done = each-done g.C.Coefficient.reads c.args.row.now c.loop-value.value-index c.loop-value-test.false in
    let nil = append-nil (vec_items c.loop-value.out) in
    inr (grind arith)
