use Rattle.std.proofs.Common.{◌≡◌, drop}
use Rattle.reading.specs.Numerals.{more_digits}
use Rattle.reading.proofs.numbers.digits.Given as goal

abbrev pub invariant-loop-code : goal.invariant-loop-code
invariant-loop-code l = more_digits l.most 0 l.text ≡ more_digits l.most l.value (drop l.code-index l.text)
