use Rattle.std.proofs.Common.{take, ◌∙◌}
use Rattle.products.proofs.Reducing.{sigma_is}
use Rattle.products.proofs.noise.sigma.Goals as goal

pub returns-clause-value : goal.returns-clause-value
returns-clause-value g c =
    let n = c.args.n in
    c.times.ensures.value ∙ sigma_is n (take n c.args.h.now) c.args.noise.now c.requires.rows.0
