-- The calls of a station, read from the words after their names, with rows of so many places.
use Rattle.std.specs.Prelude.{ℕ, ◌/◌, List, Some, None, Ok, Err, Option}
use Rattle.reading.specs.declared.fault.Fault.TheVariants.{Unread as NotRead}
use Rattle.reading.specs.declared.fault.Unread.TheVariants.{Command as NoCommand}
use Rattle.reading.specs.Arguments.{Reader, argument, length_if_any, length_or, next, known}
use Rattle.reading.specs.Coefficients.{whole}
use Rattle.reading.specs.Hex.{bytes_of}
use Rattle.reading.specs.Lengths.{bytes_for}
use Rattle.reading.specs.Numerals.{number_of, width_of}
use Rattle.reading.specs.Rows.{row_by}
use Rattle.script.specs.declared.names.CallName.{CallName}
use Rattle.script.specs.declared.names.CallName.TheVariants.{Deposit, Join, Trim, Clear, Open, HandOut, Publish, Tell, Alike}
use Rattle.script.specs.Names.{call_name}
use Rattle.script.specs.Asked.{Asked, deposit, join, trim, clear, open_place, hand_out, publish, tell, alike}

-- a place, a width, a row of noise and a message
abbrev pub deposit_line : ℕ → Reader Asked
deposit_line degree =
    next (argument number_of) (λ place.
    next (argument width_of) (λ width.
    next (argument (row_by whole degree)) (λ noise.
    next (argument bytes_of) (λ message.
    known (Ok (deposit place width noise message))))))

-- two places
abbrev pub join_line : Reader Asked
join_line = next (argument number_of) (λ first. next (argument number_of) (λ second. known (Ok (join first second))))

-- a place
abbrev pub trim_line : Reader Asked
trim_line = next (argument number_of) (λ place. known (Ok (trim place)))

-- a place
abbrev pub clear_line : Reader Asked
clear_line = next (argument number_of) (λ place. known (Ok (clear place)))

-- a place and a buffer, of which the right one holds a byte for sixteen places
abbrev pub open_line : ℕ → Reader Asked
open_line degree = next (argument number_of) (λ place. next (length_or (degree / 16)) (λ length. known (Ok (open_place place length))))

-- a place and a buffer, if the line gives one
abbrev pub hand_out_line : Reader Asked
hand_out_line = next (argument number_of) (λ place. next length_if_any (λ length. known (Ok (hand_out place length))))

-- a buffer, of which the right one holds 12 bits for each place
abbrev pub publish_line : ℕ → Reader Asked
publish_line degree = next (length_or (bytes_for degree 12)) (λ length. known (Ok (publish length)))

-- a place
abbrev pub tell_line : Reader Asked
tell_line = next (argument number_of) (λ place. known (Ok (tell place)))

-- two places
abbrev pub alike_line : Reader Asked
alike_line = next (argument number_of) (λ first. next (argument number_of) (λ second. known (Ok (alike first second))))

-- the call of a name
abbrev pub call_line : CallName → ℕ → Reader Asked
call_line Deposit degree = deposit_line degree
call_line Join degree = join_line
call_line Trim degree = trim_line
call_line Clear degree = clear_line
call_line Open degree = open_line degree
call_line HandOut degree = hand_out_line
call_line Publish degree = publish_line degree
call_line Tell degree = tell_line
call_line Alike degree = alike_line

-- the call of a name, if it is one
abbrev pub call_by : Option CallName → ℕ → Reader Asked
call_by (Some name) degree = call_line name degree
call_by None degree = known (Err (NotRead NoCommand))

-- the call that a word names
abbrev pub named_call : List ℕ → ℕ → Reader Asked
named_call word degree = call_by (call_name word) degree
