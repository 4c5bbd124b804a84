-- A list of exchanges with a station: the calls, what each was handed, and what each was answered.
use Rattle.std.specs.Prelude.{List, map, vec_items}
use Rattle.custody.specs.declared.call.Call.{Call}
use Rattle.custody.specs.declared.exchange.Exchange.{Exchange}
use Rattle.custody.specs.Promise.{Asked, Replied}

-- the calls
abbrev pub calls_of : List Exchange → List Call
calls_of xs = map (λ x. x.call) xs

-- the calls with their buffers
abbrev pub asked_of : List Exchange → List Asked
asked_of xs = map (λ x. (x.call, vec_items x.buffer)) xs

-- the answers with the buffers
abbrev pub replied_of : List Exchange → List Replied
replied_of xs = map (λ x. (x.answer, vec_items x.buffer)) xs
