-- What is asked of an engine before a product, and what it is afterwards.
use Rattle.std.specs.Prelude.{◌≡◌, ℕ, ◌≤◌}
use Rattle.ring.specs.declared.engine.RingEngine.{Ghosts as Engine}

-- an engine of degree n and modulus m, whose rows an array can hold
abbrev pub Fits : {E : Type 0} → Engine E → E → ℕ → ℕ → Type 0
Fits e engine n m = (e.degree engine ≡ n) × (e.modulus engine ≡ m) × (n ≤ 1024)

-- it tells the same of itself
abbrev pub Same : {E : Type 0} → Engine E → E → E → Type 0
Same e before after = (e.degree after ≡ e.degree before) × (e.modulus after ≡ e.modulus before)
