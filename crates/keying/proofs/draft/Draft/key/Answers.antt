use Rattle.std.proofs.Common.{rules, ◌≡◌, length, take, sym, refl, ◌∙◌, arith}
use Rattle.wrapping.specs.Secrets.{reduced_row}
use Rattle.keying.specs.KeyLaw.{Cut}
use Rattle.keying.specs.Told.{tells}
use Rattle.keying.proofs.Inverting.{swapped, ties}
use Rattle.keying.proofs.KeyLaws.{checked, cut_below}
use Rattle.keying.proofs.draft.Draft.key.Goals as goal

pub made-self-requires : goal.made-self-requires
made-self-requires g c =
    let field = c.args.self.now.engines.field in
    let binary = c.args.self.now.engines.binary in
    let told = tells (g.P.RingEngine.degree field) (g.P.RingEngine.modulus field) (g.Q.RingEngine.degree binary) (g.Q.RingEngine.modulus binary) in
    let f = c.args.f.now in
    let noise = c.args.g.now in
    let n = length f in
    let u = take n c.inverse_of.new.u in
    let h = c.times-h.result in
    let k = checked told f noise c.in_ok-check.field-0 c.in_ok-check.ensures in
    let sizes = g.P.RingEngine.sizes field in
    let lg : length noise ≡ n = k.g_long ∙ sym k.f_long in
    let value = c.times-h.ensures.value ∙ swapped n u noise (omega arith) c.in_ok-inverse_of.ensures.long lg in
    let cut : Cut 0 n h = (omega arith, c.times-h.ensures.rest) in
    record {
      degree = ((omega arith, omega arith), lg);
      small = (k.f_small, k.g_small);
      row = (cut, cut_below n h (reduced_row 3457 noise) u value cut);
      tied = ties n f noise u (take n h) (omega arith) refl lg c.in_ok-inverse_of.ensures value;
    }

pub returns-clause-keyed : goal.returns-clause-keyed
returns-clause-keyed g c =
    let field = c.args.self.now.engines.field in
    let binary = c.args.self.now.engines.binary in
    let told = tells (g.P.RingEngine.degree field) (g.P.RingEngine.modulus field) (g.Q.RingEngine.degree binary) (g.Q.RingEngine.modulus binary) in
    let f = c.args.f.now in
    let noise = c.args.g.now in
    let n = length f in
    let u = take n c.inverse_of.new.u in
    let k = checked told f noise c.in_ok-check.field-0 c.in_ok-check.ensures in
    let sizes = g.P.RingEngine.sizes field in
    let lg : length noise ≡ n = k.g_long ∙ sym k.f_long in
    let value = c.times-h.ensures.value ∙ swapped n u noise (omega arith) c.in_ok-inverse_of.ensures.long lg in
    search (rules, value)
