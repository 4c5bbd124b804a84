-- How a tally counts an answer.
use Rattle.std.specs.Prelude.{ℕ, ◌+◌, ◌%◌, ◌^◌, List, ◌++◌, codes, decimal}
use Rattle.script.specs.declared.answer.Answer.{Answer}
use Rattle.script.specs.declared.answer.Answer.TheVariants.{Done, Refused, Bytes, Row, Told, Likeness, NoSuchEngine, NoDraft, NoStation, Unread}
use Rattle.session.specs.declared.tally.Tally.{Tally}

-- one more, modulo 2^64
abbrev pub more : ℕ → ℕ
more n = (n + 1) % 2 ^ 64

abbrev pub obeyed_more : Tally → Tally
obeyed_more t = record { obeyed = more t.obeyed; refused = t.refused; unread = t.unread }

abbrev pub refused_more : Tally → Tally
refused_more t = record { obeyed = t.obeyed; refused = more t.refused; unread = t.unread }

abbrev pub unread_more : Tally → Tally
unread_more t = record { obeyed = t.obeyed; refused = t.refused; unread = more t.unread }

-- what was not there counts as refused
abbrev pub counted : Tally → Answer → Tally
counted t Done = obeyed_more t
counted t (Refused e) = refused_more t
counted t (Bytes values) = obeyed_more t
counted t (Row values) = obeyed_more t
counted t (Told width allowance) = obeyed_more t
counted t (Likeness alike) = obeyed_more t
counted t NoSuchEngine = refused_more t
counted t NoDraft = refused_more t
counted t NoStation = refused_more t
counted t (Unread what) = unread_more t

-- how a tally is written
abbrev pub tally_shown : Tally → List ℕ
tally_shown t =
    decimal t.obeyed ++ (codes " carried out, " ++ (decimal t.refused ++ (codes " refused, " ++ (decimal t.unread ++ codes " not read"))))
