-- The commands of a script, read from the words after their names.
use Rattle.std.specs.Prelude.{ℕ, cond, List, Some, None, Ok, Err, vec_items, codes, Option, Result}
use Rattle.std.specs.Str.{bytes_eq}
use Rattle.reading.specs.declared.fault.Fault.{Fault}
use Rattle.reading.specs.declared.fault.Fault.TheVariants.{Unread as NotRead}
use Rattle.reading.specs.declared.fault.Unread.TheVariants.{Command as NoCommand}
use Rattle.reading.specs.Arguments.{Reader, argument, number_if_any, next, known}
use Rattle.reading.specs.Coefficients.{whole}
use Rattle.reading.specs.Lines.{ended}
use Rattle.reading.specs.Memory.{faulty}
use Rattle.reading.specs.Numerals.{number_of}
use Rattle.reading.specs.Rows.{row_by}
use Rattle.reading.specs.Steps.{then}
use Rattle.script.specs.declared.names.CallName.{CallName}
use Rattle.script.specs.declared.names.TaskName.{TaskName}
use Rattle.script.specs.declared.command.Command.{Command}
use Rattle.script.specs.declared.command.Command.TheVariants.{Engines, Key, Commission, Station, Apart}
use Rattle.script.specs.Asked.{Asked, engines, key, commission, request_asked, task_asked}
use Rattle.script.specs.Calls.{call_line}
use Rattle.script.specs.Engines.{told, engine_of}
use Rattle.script.specs.Names.{call_name, task_name}
use Rattle.script.specs.Tasks.{task_line}

-- what a command asks for
abbrev pub asked_of : Command → Asked
asked_of (Engines field binary) = engines (told field) (told binary)
asked_of (Key f g) = key (vec_items f) (vec_items g)
asked_of Commission = commission
asked_of (Station request) = request_asked request
asked_of (Apart task) = task_asked task

-- two engines, each of a degree and a modulus
abbrev pub engine_pair : ℕ × ℕ → ℕ × ℕ → Result Asked Fault
engine_pair field binary = then (engine_of field.0 field.1) (λ a. then (engine_of binary.0 binary.1) (λ b. Ok (engines a b)))

-- two engines of one degree with the moduli that a draft needs, or two that are given whole
abbrev pub engines_by : ℕ → Option ℕ → Reader Asked
engines_by n None = known (engine_pair (n, 3457) (n, 2048))
engines_by n (Some m) = next (argument number_of) (λ k. next (argument number_of) (λ l. known (engine_pair (n, m) (k, l))))

-- a degree, and a modulus with a second engine if the line goes on
abbrev pub engines_line : Reader Asked
engines_line = next (argument number_of) (λ n. next number_if_any (engines_by n))

-- two rows with sign
abbrev pub key_line : ℕ → Reader Asked
key_line degree = next (argument (row_by whole degree)) (λ f. next (argument (row_by whole degree)) (λ g. known (Ok (key f g))))

-- a task or a call, where the name is of one
abbrev pub other_line : Option TaskName → Option CallName → ℕ → Reader Asked
other_line (Some task) call degree = task_line task
other_line None (Some call) degree = call_line call degree
other_line None None degree = known (Err (NotRead NoCommand))

-- the command of a name, with rows of so many places
abbrev pub named_line : List ℕ → ℕ → Reader Asked
named_line name degree =
    cond (bytes_eq name (codes "engines")) engines_line
    (cond (bytes_eq name (codes "key")) (key_line degree)
    (cond (bytes_eq name (codes "commission")) (known (Ok commission))
    (other_line (task_name name) (call_name name) degree)))

-- the command of a name, with exactly the words that follow it
abbrev pub command_of : List ℕ → ℕ → List (List ℕ) → Result Asked Fault
command_of name degree words = then (named_line name degree words) (λ p. then (faulty (ended p.1)) (λ _. Ok p.0))
