use Rattle.std.proofs.Common.{ℤ, refl, ap, ◌∙◌, w32}
use Rattle.std.proofs.lemmas.Int.{to_z-of_z}
use Rattle.code.specs.Tries.{raised}
use Rattle.code.proofs.shifted.Shifted.new.Goals as goal

pub returns : goal.returns
returns c =
    record {
      by = to_z-of_z w32 c.args.by c.ranges.by;
      held = c.raise.ensures.value ∙ ap (λ (s : ℤ). raised s c.args.octet.now) (to_z-of_z w32 c.args.by c.ranges.by);
      fits = c.raise.ensures.fits;
      lent = refl;
    }
