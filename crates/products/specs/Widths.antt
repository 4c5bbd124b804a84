-- Widths in replies.
use Rattle.std.specs.Prelude.{ℕ, Ok, Err, Result}
use Rattle.ring.specs.declared.refusal.Refusal.{Refusal}
use Rattle.code.specs.declared.width.Width.{Width}

-- a reply with a width as a reply with its bits
abbrev pub bits_of : Result Width Refusal → Result ℕ Refusal
bits_of (Ok w) = Ok w.bits
bits_of (Err e) = Err e
