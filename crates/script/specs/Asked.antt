-- What a line asks for, with its rows and bytes as lists, and an engine as its degree and modulus.
use Rattle.std.specs.Prelude.{ℕ, List, ℤ, vec_items, Option}
use Rattle.script.specs.declared.request.Request.{Request}
use Rattle.script.specs.declared.request.Request.TheVariants.{Deposit, Join, Trim, Clear, Open, HandOut, Publish, Tell, Alike}
use Rattle.script.specs.declared.task.Task.{Task}
use Rattle.script.specs.declared.task.Task.TheVariants.{Seal, Unseal, Pack, Unpack, Multiply}
use Rattle.script.specs.Engines.{told}

-- by command, with its arguments in the order of the line
pub data Asked : Type 0 where
  engines : ℕ × ℕ → ℕ × ℕ → Asked
  key : List ℤ → List ℤ → Asked
  commission : Asked
  deposit : ℕ → ℕ → List ℤ → List ℕ → Asked
  join : ℕ → ℕ → Asked
  trim : ℕ → Asked
  clear : ℕ → Asked
  open_place : ℕ → ℕ → Asked
  hand_out : ℕ → Option ℕ → Asked
  publish : ℕ → Asked
  tell : ℕ → Asked
  alike : ℕ → ℕ → Asked
  seal : ℕ × ℕ → ℕ → List ℕ → List ℤ → List ℕ → ℕ → Asked
  unseal : ℕ × ℕ → ℕ → List ℤ → List ℕ → ℕ → Asked
  pack : ℕ → List ℕ → ℕ → Asked
  unpack : ℕ → List ℕ → ℕ → Asked
  multiply : ℕ × ℕ → List ℕ → List ℕ → ℕ → Asked

-- what a request asks for
abbrev pub request_asked : Request → Asked
request_asked (Deposit place width noise message) = deposit place width (vec_items noise) (vec_items message)
request_asked (Join first second) = join first second
request_asked (Trim place) = trim place
request_asked (Clear place) = clear place
request_asked (Open place length) = open_place place length
request_asked (HandOut place length) = hand_out place length
request_asked (Publish length) = publish length
request_asked (Tell place) = tell place
request_asked (Alike first second) = alike first second

-- what a task asks for
abbrev pub task_asked : Task → Asked
task_asked (Seal engine width published noise message length) =
    seal (told engine) width (vec_items published) (vec_items noise) (vec_items message) length
task_asked (Unseal engine width f bytes length) = unseal (told engine) width (vec_items f) (vec_items bytes) length
task_asked (Pack degree row length) = pack degree (vec_items row) length
task_asked (Unpack degree bytes length) = unpack degree (vec_items bytes) length
task_asked (Multiply engine left right length) = multiply (told engine) (vec_items left) (vec_items right) length
