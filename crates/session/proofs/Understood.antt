-- What was read is the command of the line, unless memory was wanting.
use Rattle.std.proofs.Common.{◌≡◌, ℕ, Ok, Err, Result, sym, ap, ◌∙◌, inl, inr, arith}
use Rattle.reading.specs.declared.fault.Fault.{Fault}
use Rattle.reading.specs.declared.fault.Fault.TheVariants.{Memory}
use Rattle.reading.specs.Memory.{Spared}
use Rattle.reading.specs.Steps.{seen}

module _ {X Y : Type 0} (view : X → Y) (due : Result Y Fault) where
  pub ok_due : (r : Result X Fault) (x : X) → Spared (seen view r) due → r ≡ Ok x → Ok (view x) ≡ due
  ok_due r x spared is = elim spared [ inl none ↦ absurd (let z : ◌≡◌ {A = ℕ} 0 1 = cc in omega arith) | inr e ↦ sym (ap (seen view) is) ∙ e ]

  pub err_due : (f g : Fault) → f ≡ g → (g ≡ Memory → ⊥) → Spared (Err f) due → Err g ≡ due
  err_due f g is other spared = elim spared [ inl none ↦ absurd (other (let z : g ≡ Memory = cc in z)) | inr e ↦ ap {B = Result Y Fault} Err (sym is) ∙ e ]
