-- The leading place of a row of residues modulo 3457.
use Rattle.std.specs.Prelude.{ℕ, suc, ◌<◌, cond, List, [], ◌∷◌, length, Some, None, Option, MatchOption, ◌==◌}
use Rattle.ring.specs.Ring.{CommRing}
use Rattle.ring.specs.Residues.{residue_ring}
use Rattle.ring.specs.declared.residue.Residue.{Residue}
use Rattle.inversion.specs.Places.{Below, Leads}

-- the residues modulo 3457, which are a field
abbrev pub F : Type 0
F = Residue 3456

abbrev pub field : CommRing F
field = residue_ring 3456

-- the leading place of a row that begins with x, from that of what follows x
abbrev pub raised : F → Option ℕ → Option ℕ
raised x None = cond (x.value == 0) None (Some 0)
raised x (Some i) = Some (suc i)

-- the highest place that is not zero, or none
unfoldable pub leading : List F → Option ℕ
leading [] = None
leading (x ∷ row) = raised x (leading row)

-- place is the highest that is not zero, or none where all are zero
abbrev pub Highest : List F → Option ℕ → Type 0
Highest row place = MatchOption place (Below field 0 row) (λ p. (p < length row) × Leads field p row)
