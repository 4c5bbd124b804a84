use Rattle.std.proofs.Common.{◌≡◌, ℕ, true, take, sym, subst, arith}
use Rattle.ring.specs.Engines.{all_below}
use Rattle.wrapping.specs.Secrets.{secret}
use Rattle.products.proofs.Reducing.{secret_front, front_below, measured_is}
use Rattle.products.proofs.secret.measured.Goals as goal

pub multiply-requires : goal.multiply-requires
multiply-requires g c =
    let m = g.Q.RingEngine.modulus c.args.engine.now in
    let n = c.args.n in
    let f = c.args.f.now in
    let front = secret_front n f c.reduce_secret.new.out c.told-f c.reduce_secret.ensures in
    record {
      engine = (c.requires.engine.0, c.requires.engine.2);
      residues = (subst (λ (k : ℕ). all_below k (take n c.args.c.now) ≡ true) (sym c.requires.engine.1) c.requires.row, front_below m 2048 (take n c.reduce_secret.new.out) (secret (take n f)) c.requires.engine.1 (omega arith) front);
    }

pub returns : goal.returns
returns g c =
    let m = g.Q.RingEngine.modulus c.args.engine.now in
    let n = c.args.n in
    let f = c.args.f.now in
    let front = secret_front n f c.reduce_secret.new.out c.told-f c.reduce_secret.ensures in
    record {
      same = c.multiply.ensures.same;
      value = measured_is m n (take n c.multiply.new.out) (take n c.args.c.now) (take n c.reduce_secret.new.out) (take n f) c.requires.engine.1 c.requires.row front c.multiply.ensures.product;
    }
