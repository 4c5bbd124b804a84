use Rattle.std.proofs.Common.{◌≡◌, Bool, cond, [], drop, codes}
use denote.Shadow.{shadow}
use denote.Text.{Utf8}
use Rattle.script.specs.Written.{terms, listed, row_text}
use Rattle.script.proofs.Writing.{Halfway}
use Rattle.script.proofs.written.row.Given as goal

abbrev pub invariant-loop-place : goal.invariant-loop-place
invariant-loop-place g l =
    shadow (Utf8 l.separator)
    × ((first : Bool) × (l.separator ≡ cond first [] (codes ","))
    × Halfway g.W.Write.write_str_gives l.initial.f l.f (row_text l.values) (listed first (terms l.place (drop l.place l.values))))
