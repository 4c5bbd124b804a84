use Rattle.std.proofs.Common.{◌≡◌, ℕ, ◌*◌, ◌/◌, length, take, sym, refl, ap, ◌∙◌}
use Rattle.std.proofs.lemmas.Result.{err_from_is_err_and}
use Rattle.sealing.specs.Sealing.{sealed}
use Rattle.sealing.proofs.SealAnswers.{suits_so, kept, seal_breaks, seal_obeys, seal_writes}
use Rattle.sealing.proofs.feed.seal.Goals as goal

pub returns-in_err-read_key : goal.returns-in_err-read_key
returns-in_err-read_key g c =
    let engine = c.args.engine.now in
    let d = g.P.RingEngine.degree engine in
    let k = g.P.RingEngine.modulus engine in
    let n = c.degree-n.result in
    let m = c.modulus.result in
    let w = c.args.width in
    let bits = c.in_ok-width.width.bits in
    let key = c.args.key.now in
    let r = c.args.noise.now in
    let message = c.args.message.now in
    let out = c.args.out.now in
    let a = c.from_residual-in_err-read_key.result in
    let s = suits_so 9 3457 n m w bits c.in_ok-width.ensures in
    let lo : length out ≡ n * bits / 8 = c.if-out-n.false ∙ ap (λ (v : ℕ). n * v / 8) c.bits.ensures in
    let exit = err_from_is_err_and a c.from_residual-in_err-read_key.ensures.1 in
    record {
      same = (refl, refl);
      answers =
          seal_breaks d k n m w bits (length out) key r message c.degree-n.ensures c.modulus.ensures s (g.P.RingEngine.sizes engine)
          c.if-key-n.false c.if-noise-n.false c.if-message-n.false lo a exit.0 _ exit.1 exit.2 c.in_err-read_key.ensures.answers;
      writes = kept a exit.0 (sealed d w key r message) out exit.1;
    }

pub returns : goal.returns
returns g c =
    let engine = c.args.engine.now in
    let d = g.P.RingEngine.degree engine in
    let k = g.P.RingEngine.modulus engine in
    let n = c.degree-n.result in
    let m = c.modulus.result in
    let w = c.args.width in
    let bits = c.in_ok-width.width.bits in
    let key = c.args.key.now in
    let r = c.args.noise.now in
    let message = c.args.message.now in
    let out = c.args.out.now in
    let a = c.wrap_into.result in
    let s = suits_so 9 3457 n m w bits c.in_ok-width.ensures in
    let lo : length out ≡ n * bits / 8 = c.if-out-n.false ∙ ap (λ (v : ℕ). n * v / 8) c.bits.ensures in
    record {
      same = c.wrap_into.ensures.same;
      answers =
          seal_obeys d k n m w bits (length out) key r message c.degree-n.ensures c.modulus.ensures s (g.P.RingEngine.sizes engine)
          c.if-key-n.false c.if-noise-n.false c.if-message-n.false lo a c.wrap_into.ensures.obeyed c.in_ok-read_key.ensures.answers
          (sym c.if-not-is_small.ensures);
      writes =
          seal_writes d k n m w bits (length out) key r message c.degree-n.ensures c.modulus.ensures s (g.P.RingEngine.sizes engine)
          c.if-key-n.false c.if-noise-n.false c.if-message-n.false lo a (take n c.read_key.new.h) c.wrap_into.new.out out
          c.wrap_into.ensures.obeyed c.in_ok-read_key.ensures.writes c.wrap_into.ensures.writes;
    }
