use Rattle.std.proofs.Common.{◌≡◌, ℕ, ◌*◌, ◌/◌, length, take, Ok, Result, sym, refl, ap, ◌∙◌, arith}
use Rattle.std.proofs.lemmas.List.{take_at}
use Rattle.ring.specs.declared.refusal.Refusal.{Refusal}
use Rattle.sealing.proofs.Packings.{bytes_fill, unpacked-low}
use Rattle.sealing.proofs.SealAnswers.{suits_so, unseal_obeys, unseal_writes}
use Rattle.sealing.proofs.feed.unseal.Goals as goal

pub read_row-requires : goal.read_row-requires
read_row-requires g c =
    let n = c.degree-n.result in
    let bits = c.in_ok-width.width.bits in
    let s = suits_so 8 2048 n c.modulus.result c.args.width bits c.in_ok-width.ensures in (
      s.small,
      bytes_fill n c.bits.result bits (length c.args.bytes.now) (omega (arith, g.Q.RingEngine.sizes c.args.engine.now)) c.bits.ensures c.if-bytes-n.false,
    )

pub decode-requires : goal.decode-requires
decode-requires g c =
    let n = c.degree-n.result in
    let bits = c.in_ok-width.width.bits in
    let s = suits_so 8 2048 n c.modulus.result c.args.width bits c.in_ok-width.ensures in
    record {
      engine = (sym c.degree-n.ensures, sym c.modulus.ensures ∙ s.modular, s.small);
      row = unpacked-low bits n c.args.bytes.now (take n c.read_row.new.c) c.in_ok-width.width.ok.1 c.read_row.ensures.writes;
    }

pub returns : goal.returns
returns g c =
    let engine = c.args.engine.now in
    let d = g.Q.RingEngine.degree engine in
    let k = g.Q.RingEngine.modulus engine in
    let n = c.degree-n.result in
    let m = c.modulus.result in
    let w = c.args.width in
    let bits = c.in_ok-width.width.bits in
    let f = c.args.f.now in
    let bytes = c.args.bytes.now in
    let out = c.args.out.now in
    let a : Result (Unit {0}) Refusal = Ok tt in
    let s = suits_so 8 2048 n m w bits c.in_ok-width.ensures in
    let lb : length bytes ≡ n * bits / 8 = c.if-bytes-n.false ∙ ap (λ (v : ℕ). n * v / 8) c.bits.ensures in
    let front : take n c.padded.result ≡ f = ap (take n) c.padded.ensures ∙ take_at f _ n c.if-f-n.false in
    record {
      same = c.decode.ensures.same;
      answers =
          unseal_obeys d k n m w bits (length out) f bytes c.degree-n.ensures c.modulus.ensures s c.if-f-n.false lb c.if-out-n.false
          a refl (sym c.if-not-is_small.ensures);
      writes =
          unseal_writes d k n m w bits (length out) f bytes c.degree-n.ensures c.modulus.ensures s c.if-f-n.false lb c.if-out-n.false
          a (take n c.read_row.new.c) c.decode.new.out out (take n c.padded.result) refl c.read_row.ensures.writes front c.decode.ensures.writes;
    }
