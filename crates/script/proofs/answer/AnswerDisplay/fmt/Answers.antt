use Rattle.script.proofs.answer.AnswerDisplay.fmt.Goals as goal

pub returns-in-NoSuchEngine-clause-writes : goal.returns-in-NoSuchEngine-clause-writes
returns-in-NoSuchEngine-clause-writes g c plain ok = rw c.in-NoSuchEngine.is (c.write-in-NoSuchEngine.ensures.writes plain ok)
