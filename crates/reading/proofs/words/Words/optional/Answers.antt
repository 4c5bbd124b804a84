use Rattle.std.proofs.Common.{rules}
use borrow.Author.Tests.{tests}
use Rattle.reading.proofs.Seeking.{found}
use Rattle.reading.proofs.words.Words.optional.Goals as goal

pub returns : goal.returns
returns c =
    let word = found _ (λ f x q k. search (rules, tests)) (λ f x q k. search (rules, tests)) _ _ _ _ c.find.ensures.ran in
    record { answers = word.0; leaves = word.1 }
