use Rattle.std.proofs.Common.{◌≡◌, pos, sym, arith, w32, to_z}
use Rattle.std.proofs.lemmas.Int.{ints}
use Rattle.reading.proofs.Counting.{digits_within}
use Rattle.reading.proofs.numbers.signed.Goals as goal

pub negative-requires : goal.negative-requires
negative-requires c = digits_within 2147483648 _ _ (sym c.in_ok-digits-in-Some.ensures)

pub overflow_cast-result : goal.overflow_cast-result
overflow_cast-result c =
    let within = digits_within 2147483647 _ _ (sym c.in_ok-unsigned-in-None.ensures) in
    omega (arith, ints)

pub returns-in_ok-unsigned-in-None : goal.returns-in_ok-unsigned-in-None
returns-in_ok-unsigned-in-None c =
    let read = c.in_ok-unsigned-in-None.ensures in
    let within = digits_within 2147483647 _ _ (sym read) in
    let same : to_z w32 c.in_ok-unsigned-in-None.field-0 ≡ pos c.in_ok-unsigned-in-None.field-0 = omega (arith, ints) in
    grind arith
