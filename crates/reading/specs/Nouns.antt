-- The noun for what in a line cannot be read.
use Rattle.std.specs.Prelude.{ℕ, List, codes}
use Rattle.reading.specs.declared.fault.Unread.{Unread}
use Rattle.reading.specs.declared.fault.Unread.TheVariants.{Command, Words, Number, Row, Hex, Text}

-- the noun that is printed
abbrev pub noun_of : Unread → List ℕ
noun_of Command = codes "command"
noun_of Words = codes "words"
noun_of Number = codes "number"
noun_of Row = codes "row"
noun_of Hex = codes "hex"
noun_of Text = codes "text"
