-- What a call answers: a refusal, or something.
use Rattle.std.specs.Prelude.{ℕ, List, Ok, Err, Result}
use Rattle.ring.specs.declared.refusal.Refusal.{Refusal}

abbrev pub Reply : Type 0 → Type 0
Reply X = Result X Refusal

-- what a call goes on with where nothing was refused so far
abbrev pub then : {X Y : Type 0} → Reply X → (X → Reply Y) → Reply Y
then (Ok x) rest = rest x
then (Err e) rest = Err e

-- a reply without what it holds
abbrev pub plain : {X : Type 0} → Reply X → Reply (Unit {0})
plain (Ok x) = Ok tt
plain (Err e) = Err e

-- the buffer with something written into it, where the call was obeyed
abbrev pub written : {X : Type 0} → Reply X → (X → List ℕ) → List ℕ → List ℕ
written (Ok x) bytes buffer = bytes x
written (Err e) bytes buffer = buffer
