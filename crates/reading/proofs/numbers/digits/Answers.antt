use Rattle.std.proofs.Common.{arith}
use Rattle.reading.proofs.Stepping.{handed_on}
use Rattle.reading.proofs.Counting.{digits_more, digits-done}
use Rattle.reading.proofs.numbers.digits.Goals as goal

pub returns-in_err-value : goal.returns-in_err-value
returns-in_err-value c =
    let step = digits_more c.args.most c.loop-code.value c.args.text.now c.loop-code.code-index c.loop-code-test.true in
    let stop = c.in_err-value.ensures in
    let out = handed_on c.from_residual.result c.from_residual.ensures.1 in
    grind arith

pub loop-code-preserved : goal.loop-code-preserved
loop-code-preserved c =
    let step = digits_more c.args.most c.loop-code.value c.args.text.now c.loop-code.code-index c.loop-code-test.true in
    let next = c.in_ok-value.ensures in
    grind arith

pub returns : goal.returns
returns c =
    let done = digits-done c.args.most c.loop-code.value c.args.text.now c.loop-code.code-index c.loop-code-test.false in
    grind arith
