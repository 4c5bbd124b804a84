use Rattle.std.proofs.Common.{◌≡◌, ◌+◌, ◌/◌, [], length, drop, vec_items, sym, inr, append-nil, arith, eqb-true}
use Rattle.reading.specs.Rows.{each}
use Rattle.reading.proofs.Narrowing.{each_more, each_stops, each-done}
use Rattle.reading.proofs.Pairing.{byte_by, pairs_by_twos}
use Rattle.reading.proofs.Stepping.{handed_on, seen_push}
use Rattle.reading.proofs.hex.read.Goals as goal

pub returns-in_err-byte : goal.returns-in_err-byte
returns-in_err-byte c =
    let word = c.args.word.now in
    let twos = c.as_chunks.result.0.now in
    let none : length c.as_chunks.result.1.now ≡ 0 = eqb-true (length c.as_chunks.result.1.now) 0 (sym c.if-not-is_empty.ensures) in
    let whole = pairs_by_twos (length word / 2) word (omega arith) in
    let stops = each_stops byte_by twos (vec_items c.loop-high.out) c.loop-high.high-index [] c.in_err-byte.field-0.0 c.loop-high-test.true c.loop-high.invariant c.in_err-byte.ensures in
    let out = handed_on c.from_residual.result c.from_residual.ensures.1 in
    inr (grind arith)

pub loop-high-preserved : goal.loop-high-preserved
loop-high-preserved c =
    let twos = c.as_chunks.result.0.now in
    let i = c.loop-high.high-index in
    let step = each_more byte_by twos i [] c.loop-high-test.true in
    let next = c.in_ok-byte.ensures in
    let was = c.in_ok-push.was in
    let push = seen_push (vec_items c.loop-high.out) c.in_ok-byte.field-0 (each byte_by (drop (i + 1) twos)) in
    grind arith

pub returns : goal.returns
returns c =
    let word = c.args.word.now in
    let none : length c.as_chunks.result.1.now ≡ 0 = eqb-true (length c.as_chunks.result.1.now) 0 (sym c.if-not-is_empty.ensures) in
    let whole = pairs_by_twos (length word / 2) word (omega arith) in
    let done = each-done byte_by c.as_chunks.result.0.now c.loop-high.high-index c.loop-high-test.false in
    let nil = append-nil (vec_items c.loop-high.out) in
    inr (grind arith)
