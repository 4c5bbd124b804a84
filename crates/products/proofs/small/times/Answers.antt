use Rattle.std.proofs.Common.{◌≡◌, ℕ, true, List, take, sym, ◌∙◌, ap₂, subst, arith}
use Rattle.std.proofs.lemmas.List.{drop-replicate}
use Rattle.ring.specs.Engines.{all_below, product_mod}
use Rattle.products.proofs.Reducing.{noise_front, front_below}
use Rattle.products.proofs.small.times.Goals as goal

pub multiply-requires : goal.multiply-requires
multiply-requires g c =
    let m = g.P.RingEngine.modulus c.args.engine.now in
    let n = c.args.n in
    let row = c.args.row.now in
    let small = c.args.small.now in
    let front = noise_front n small c.reduce.new.out c.requires.rows.1 c.requires.engine.2 c.reduce.ensures in
    record {
      engine = (c.requires.engine.0, c.requires.engine.2);
      residues = (subst (λ (k : ℕ). all_below k (take n row) ≡ true) (sym c.requires.engine.1) c.requires.rows.0, front_below m 3457 (take n c.reduce.new.out) small c.requires.engine.1 (omega arith) front);
    }

pub returns-clause-value : goal.returns-clause-value
returns-clause-value g c =
    let n = c.args.n in
    let row = c.args.row.now in
    let small = c.args.small.now in
    let front = noise_front n small c.reduce.new.out c.requires.rows.1 c.requires.engine.2 c.reduce.ensures in
    c.multiply.ensures.product ∙ ap₂ (λ (k : ℕ) (x : List ℕ). product_mod k n (take n row) x) c.requires.engine.1 front

pub returns-clause-rest : goal.returns-clause-rest
returns-clause-rest g c = c.multiply.ensures.rest ∙ drop-replicate c.args.n 1024 0
