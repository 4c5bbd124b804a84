use Rattle.std.proofs.Common.{◌≡◌, ◌+◌, ◌-◌, ◌*◌, ◌^◌, sym, ◌∙◌, ap₂, arith}
use Rattle.packing.specs.Digits.{value}
use Rattle.packing.proofs.Streams.{rest_is, lowest_is}
use Rattle.packing.proofs.bits.BitReader.pass_on.Goals as goal

pub returns-clause-answers : goal.returns-clause-answers
returns-clause-answers c =
    let reader = c.args.self.now in
    let w = c.args.width.bits in
    c.pass_on.ensures.answers ∙ sym (lowest_is reader.pending.number reader.pending.count w (value 256 reader.bytes.now) c.requires)

pub returns-clause-number : goal.returns-clause-number
returns-clause-number c =
    let reader = c.args.self.now in
    let w = c.args.width.bits in
    let v = value 256 reader.bytes.now in
    let fewer : c.pass_on.new.self.count ≡ reader.pending.count - w = omega (arith, c.pass_on.ensures.count) in
    ap₂ (λ n k. n + 2 ^ k * v) c.pass_on.ensures.number fewer ∙ sym (rest_is reader.pending.number reader.pending.count w v c.requires)
