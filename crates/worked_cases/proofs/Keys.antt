-- What a key of f' and g holds, from an inverse of f.
use Rattle.std.proofs.Common.{◌≡◌, ℕ, List, length, ℤ, ap, ◌∙◌}
use Rattle.ring.specs.Engines.{product_mod}
use Rattle.wrapping.specs.Secrets.{secret, reduced_row}
use Rattle.keying.specs.declared.key.Key.{Key}
use Rattle.keying.specs.Keys.{h_of}
use Rattle.keying.specs.Keying.{Inverts, Made}
use Rattle.worked_cases.proofs.Inverses.{only-inverse}

pub h_from : (f g : List ℤ) (u h : List ℕ) (key : Key) → Made 16 f g key → length (reduced_row 3457 (secret f)) ≡ 16 → Inverts 16 f u
    → product_mod 3457 16 (reduced_row 3457 g) u ≡ h → h_of key ≡ h
h_from f g u h key m l i e = m.h_is ∙ ap (product_mod 3457 16 (reduced_row 3457 g)) (only-inverse f m.inverse u l m.inverts i) ∙ e
