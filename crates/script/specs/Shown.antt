-- How each answer is written.
use Rattle.std.specs.Prelude.{ℕ, cond, List, ◌++◌, vec_items, codes, decimal}
use Rattle.ring.specs.Refusals.{shown_of}
use Rattle.reading.specs.Nouns.{noun_of}
use Rattle.script.specs.declared.answer.Answer.{Answer}
use Rattle.script.specs.declared.answer.Answer.TheVariants.{Done, Refused, Bytes, Row, Told, Likeness, NoSuchEngine, NoDraft, NoStation, Unread}
use Rattle.script.specs.Written.{hex_of, row_text}

-- the text after the name of the command
abbrev pub answer_shown : Answer → List ℕ
answer_shown Done = codes "done"
answer_shown (Refused refusal) = codes "refused " ++ shown_of refusal
answer_shown (Bytes values) = hex_of (vec_items values)
answer_shown (Row row) = row_text (vec_items row)
answer_shown (Told width allowance) = codes "width " ++ (decimal width ++ (codes " allowance " ++ decimal allowance))
answer_shown (Likeness alike) = cond alike (codes "yes") (codes "no")
answer_shown NoSuchEngine = codes "no such engine"
answer_shown NoDraft = codes "no draft"
answer_shown NoStation = codes "no station"
answer_shown (Unread what) = codes "cannot read " ++ noun_of what
