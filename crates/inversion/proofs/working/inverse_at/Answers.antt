use Rattle.std.proofs.Common.{◌≡◌, ◌∙◌, subst, MatchOption}
use Rattle.std.proofs.lemmas.List.{get_or_default}
use Rattle.inversion.specs.Places.{at}
use Rattle.inversion.specs.Leading.{F, field}
use Rattle.inversion.proofs.working.inverse_at.Goals as goal

pub returns : goal.returns
returns c =
    let x = c.index-row-place.result in
    let x-is : x ≡ at field c.args.row.now c.args.place = c.index-row-place.is ∙ get_or_default c.args.row.now c.args.place x field.zero c.requires in
    subst (λ (w : F). MatchOption c.inverse.result (w ≡ field.zero) (λ y. field.mul w y ≡ field.one)) x-is c.inverse.ensures
