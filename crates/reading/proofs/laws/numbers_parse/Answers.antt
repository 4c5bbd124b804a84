use Rattle.std.proofs.Common.{arith}
use Rattle.reading.proofs.Parsing.{unsigned_parsed, signed_parsed}
use Rattle.reading.proofs.laws.numbers_parse.Goals as goal

pub returns : goal.returns
returns c = record {
  number = unsigned_parsed 64 18446744073709551615 (λ n. (λ h. omega arith, λ h. omega arith));
  width = unsigned_parsed 32 4294967295 (λ n. (λ h. omega arith, λ h. omega arith));
  signed = signed_parsed;
}
