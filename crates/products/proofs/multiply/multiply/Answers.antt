use Rattle.std.proofs.Common.{◌-◌, ap, is_ok}
use borrow.Rule.Slice.PartMut.{post_of}
use Rattle.products.proofs.Obeying.{front_obeys, front_fills, front_rest}
use Rattle.products.proofs.multiply.multiply.Goals as goal

pub returns : goal.returns
returns g c =
    let d = g.E.RingEngine.degree c.args.engine.now in
    let m = g.E.RingEngine.modulus c.args.engine.now in
    let n = c.args.n in
    let a = c.args.a.now in
    let b = c.args.b.now in
    let out = c.args.out.now in
    record {
      same = (c.multiply.ensures.sized, c.multiply.ensures.modular);
      product =
          front_fills d m n a b out c.requires.engine.0 c.requires.engine.1 c.told-a c.told-b c.told-out c.requires.residues.0 c.requires.residues.1
          c.multiply.new.out (post_of 0 (n - 0) out) c.multiply.auto.out c.multiply.ensures.writes;
      rest =
          front_rest d m n a b out c.requires.engine.0 c.requires.engine.1 c.told-a c.told-b c.told-out c.requires.residues.0 c.requires.residues.1
          c.multiply.new.out c.multiply.auto.out;
    }

pub unwrap-requires : goal.unwrap-requires
unwrap-requires g c =
    let d = g.E.RingEngine.degree c.args.engine.now in
    let m = g.E.RingEngine.modulus c.args.engine.now in
    ap is_ok (front_obeys d m c.args.n c.args.a.now c.args.b.now c.args.out.now c.requires.engine.0 c.requires.engine.1 c.told-a c.told-b c.told-out
    c.requires.residues.0 c.requires.residues.1 c.multiply.result c.multiply.ensures.answers)
