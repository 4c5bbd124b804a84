-- The names of calls and of tasks.
use Rattle.std.specs.Prelude.{ℕ, cond, List, Some, None, codes, Option}
use Rattle.std.specs.Str.{bytes_eq}
use Rattle.script.specs.declared.names.CallName.{CallName}
use Rattle.script.specs.declared.names.CallName.TheVariants.{Deposit, Join, Trim, Clear, Open, HandOut, Publish, Tell, Alike}
use Rattle.script.specs.declared.names.TaskName.{TaskName}
use Rattle.script.specs.declared.names.TaskName.TheVariants.{Seal, Unseal, Pack, Unpack, Multiply}

-- the call of a station that a word names
abbrev pub call_name : List ℕ → Option CallName
call_name word =
    cond (bytes_eq word (codes "deposit")) (Some Deposit)
    (cond (bytes_eq word (codes "join")) (Some Join)
    (cond (bytes_eq word (codes "trim")) (Some Trim)
    (cond (bytes_eq word (codes "clear")) (Some Clear)
    (cond (bytes_eq word (codes "open")) (Some Open)
    (cond (bytes_eq word (codes "handout")) (Some HandOut)
    (cond (bytes_eq word (codes "publish")) (Some Publish)
    (cond (bytes_eq word (codes "tell")) (Some Tell)
    (cond (bytes_eq word (codes "alike")) (Some Alike) None))))))))

-- the task that a word names
abbrev pub task_name : List ℕ → Option TaskName
task_name word =
    cond (bytes_eq word (codes "seal")) (Some Seal)
    (cond (bytes_eq word (codes "unseal")) (Some Unseal)
    (cond (bytes_eq word (codes "pack")) (Some Pack)
    (cond (bytes_eq word (codes "unpack")) (Some Unpack)
    (cond (bytes_eq word (codes "multiply")) (Some Multiply) None))))
