use Rattle.std.proofs.Common.{◌≡◌, ℕ, ◌<◌, get_or}
use Rattle.code.specs.Rows.{whole, decoded_byte}
use Rattle.code.proofs.octets.decode.Given as goal

abbrev pub invariant-loop-j : goal.invariant-loop-j
invariant-loop-j l = (k : ℕ) → k < l.j → get_or l.out k 0 ≡ decoded_byte l.width.bits (whole l.row) k
