-- The engines that a script names by a degree and a modulus.
use Rattle.std.specs.Prelude.{ℕ, cond, Ok, Err, Result}
use Rattle.ring.specs.Engines.{lawful}
use Rattle.ring.specs.declared.turning.Turning.{Turning}
use Rattle.reading.specs.declared.fault.Fault.{Fault}
use Rattle.reading.specs.declared.fault.Fault.TheVariants.{NoSuchEngine}
use Rattle.reading.specs.Arguments.{Reader, argument, next, known}
use Rattle.reading.specs.Numerals.{number_of}

-- what an engine tells of itself: its degree and its modulus
abbrev pub told : Turning → ℕ × ℕ
told engine = (engine.degree, engine.modulus)

-- the engine of a degree and a modulus, where there is one
abbrev pub engine_of : ℕ → ℕ → Result (ℕ × ℕ) Fault
engine_of n m = cond (lawful n m) (Ok (n, m)) (Err NoSuchEngine)

-- an engine of the degree and the modulus that the line gives
abbrev pub engine_line : Reader (ℕ × ℕ)
engine_line = next (argument number_of) (λ n. next (argument number_of) (λ m. known (engine_of n m)))
