use Rattle.std.proofs.Common.{refl}
use lib.Count.{ones, ones_in}
use Rattle.code.specs.Words.{word}
use Rattle.code.proofs.WordLaws.{table_rule}
use Rattle.code.proofs.words.table_rule.Goals as goal

pub returns : goal.returns
unfolding word ones ones_in
returns c = table_rule _ refl refl refl
