use Rattle.std.proofs.Common.{◌≡◌, neg_ℤ, ap, ◌∙◌, w32, SFits, rules}
use Rattle.std.specs.Int.{int_wrap, int_wrapping_neg}
use Rattle.std.proofs.lemmas.Int.{to_z-of_z, wrapping_neg_is}
use Rattle.code.proofs.Shifts.{raised-turned}
use Rattle.code.proofs.shifted.Shifted.drop.Goals as goal

pub returns : goal.returns
returns c =
    let by = c.args.self.by in
    let fits : SFits w32 by = search rules in
    let back : c.wrapping_neg-back.result ≡ int_wrap w32 (neg_ℤ by) = c.wrapping_neg-back.ensures ∙ ap (int_wrapping_neg w32) (to_z-of_z w32 by fits) ∙ wrapping_neg_is w32 by fits in
    c.raise.ensures.value ∙ raised-turned by _ c.args.self.octet.now (to_z-of_z w32 c.wrapping_neg-back.result (search rules) ∙ back)
