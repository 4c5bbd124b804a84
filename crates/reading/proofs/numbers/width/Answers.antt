use Rattle.std.proofs.Common.{sym, arith}
use Rattle.reading.proofs.Counting.{digits_within}
use Rattle.reading.proofs.numbers.width.Goals as goal

pub overflow_cast-result : goal.overflow_cast-result
overflow_cast-result c =
    let within = digits_within 4294967295 _ _ (sym c.in_ok-unsigned.ensures) in
    omega arith
