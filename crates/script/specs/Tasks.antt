-- The tasks away from drafts and stations, read from the words after their names.
use Rattle.std.specs.Prelude.{◌/◌, Ok}
use Rattle.reading.specs.Arguments.{Reader, argument, length_or, next, known}
use Rattle.reading.specs.Coefficients.{natural, whole}
use Rattle.reading.specs.Hex.{bytes_of}
use Rattle.reading.specs.Lengths.{bytes_for}
use Rattle.reading.specs.Numerals.{number_of, width_of}
use Rattle.reading.specs.Rows.{row_by}
use Rattle.script.specs.declared.names.TaskName.{TaskName}
use Rattle.script.specs.declared.names.TaskName.TheVariants.{Seal, Unseal, Pack, Unpack, Multiply}
use Rattle.script.specs.Asked.{Asked, seal, unseal, pack, unpack, multiply}
use Rattle.script.specs.Engines.{engine_line}

-- an engine, a width, a published key, a row of noise, a message, and a buffer, of which the right one holds a number of the width for each place
abbrev pub seal_line : Reader Asked
seal_line =
    next engine_line (λ engine.
    next (argument width_of) (λ width.
    next (argument bytes_of) (λ published.
    next (argument (row_by whole engine.0)) (λ noise.
    next (argument bytes_of) (λ message.
    next (length_or (bytes_for engine.0 width)) (λ length.
    known (Ok (seal engine width published noise message length))))))))

-- an engine, a width, a row, sealed bytes, and a buffer, of which the right one holds a byte for sixteen places
abbrev pub unseal_line : Reader Asked
unseal_line =
    next engine_line (λ engine.
    next (argument width_of) (λ width.
    next (argument (row_by whole engine.0)) (λ f.
    next (argument bytes_of) (λ bytes.
    next (length_or (engine.0 / 16)) (λ length.
    known (Ok (unseal engine width f bytes length)))))))

-- a degree, a row, and a buffer, of which the right one holds 12 bits for each place
abbrev pub pack_line : Reader Asked
pack_line =
    next (argument number_of) (λ degree.
    next (argument (row_by natural degree)) (λ row.
    next (length_or (bytes_for degree 12)) (λ length.
    known (Ok (pack degree row length)))))

-- a degree, bytes, and a buffer for as many numbers
abbrev pub unpack_line : Reader Asked
unpack_line =
    next (argument number_of) (λ degree.
    next (argument bytes_of) (λ bytes.
    next (length_or degree) (λ length.
    known (Ok (unpack degree bytes length)))))

-- an engine, two rows, and a buffer for as many numbers
abbrev pub multiply_line : Reader Asked
multiply_line =
    next engine_line (λ engine.
    next (argument (row_by natural engine.0)) (λ left.
    next (argument (row_by natural engine.0)) (λ right.
    next (length_or engine.0) (λ length.
    known (Ok (multiply engine left right length))))))

-- the task of a name
abbrev pub task_line : TaskName → Reader Asked
task_line Seal = seal_line
task_line Unseal = unseal_line
task_line Pack = pack_line
task_line Unpack = unpack_line
task_line Multiply = multiply_line
