-- The numbers that coefficients have.
use Rattle.std.specs.Prelude.{ℕ, cond, ℤ, pos, negsuc, Ok, Err, Result, nat_lt}
use Rattle.reading.specs.declared.fault.Unread.{Unread}
use Rattle.reading.specs.declared.fault.Unread.TheVariants.{Number}

-- a coefficient without sign is at most 65535
abbrev pub natural : ℤ → Result ℕ Unread
natural (pos n) = cond (nat_lt n 65536) (Ok n) (Err Number)
natural (negsuc n) = Err Number

-- a coefficient with a sign is from -32768 to 32767
abbrev pub whole : ℤ → Result ℤ Unread
whole (pos n) = cond (nat_lt n 32768) (Ok (pos n)) (Err Number)
whole (negsuc n) = cond (nat_lt n 32768) (Ok (negsuc n)) (Err Number)
