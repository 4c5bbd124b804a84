use Rattle.std.proofs.Common.{List, ◌++◌, ℤ, ap, ◌∙◌}
use Rattle.std.proofs.lemmas.List.{drop-replicate}
use Rattle.products.proofs.padding.padded.Goals as goal

pub returns : goal.returns
returns c = c.copy.ensures ∙ ap (λ (rest : List ℤ). c.args.row.now ++ rest) (drop-replicate _ _ _)
