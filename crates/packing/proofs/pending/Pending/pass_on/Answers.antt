use Rattle.std.proofs.Common.{arith}
use Rattle.packing.proofs.Streams.{rest_lt, low_bits}
use Rattle.packing.proofs.pending.Pending.pass_on.Goals as goal

pub invariant_of-self : goal.invariant_of-self
invariant_of-self c =
    let here = c.args.self.now in
    record { ok = (omega arith, rest_lt here.number here.count c.args.width c.requires here.ok.1) }

pub returns-clause-answers : goal.returns-clause-answers
returns-clause-answers c = low_bits c.args.self.now.number c.args.width (omega arith)
