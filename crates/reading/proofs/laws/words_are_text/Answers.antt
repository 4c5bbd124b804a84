use Rattle.reading.proofs.Texts.{words_are_text}
use Rattle.reading.proofs.laws.words_are_text.Goals as goal

pub returns : goal.returns
returns c = words_are_text
