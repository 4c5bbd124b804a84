use Rattle.std.proofs.Common.{◌<◌, length, arith, rules}
use Rattle.std.proofs.lemmas.Slice.{first_rest}
use Rattle.reading.proofs.numbers.after.Goals as goal

pub returns-then-text-sign : goal.returns-then-text-sign
returns-then-text-sign c =
    let some : 0 < length c.args.text.now = search rules in
    let e = first_rest c.args.text.now 0 some in
    grind (arith, e)
