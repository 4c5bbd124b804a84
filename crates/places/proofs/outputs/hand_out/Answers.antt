use Rattle.std.proofs.Common.{◌≡◌, ◌-◌, ◌≤◌, length, take, ◌∙◌, ap₂, arith, length-take, rules}
use Rattle.packing.specs.Digits.{packed}
use Rattle.packing.specs.Answers as packing
use Rattle.places.proofs.Outgoing.{row_answer, written_same}
use Rattle.products.proofs.Fronts.{take_all-below}
use Rattle.places.proofs.outputs.hand_out.Goals as goal

pub returns : goal.returns
returns c =
    let n = c.args.n in
    let a = c.args.filled.now in
    let w = a.width.bits in
    let row = a.coefficients in
    let old = c.args.out.now in
    let l : length a.coefficients ≡ 1024 = search rules in
    let k : n - 0 ≡ n = omega arith in
    let low : n ≤ 1024 = c.requires.0 in
    record {
      answers = c.pack_row.ensures.answers
          ∙ ap₂ (λ v i. packing.pack_row_answer v (take i row) (length old)) c.bits.ensures k
          ∙ row_answer w n (take n row) (length old) a.width.ok.0 (omega arith) c.requires.1 (omega (arith, length-take n row, l)) (take_all-below _ n row a.small);
      writes = c.pack_row.ensures.writes
          ∙ ap₂ (λ v i. packing.written c.pack_row.result (packed v (take i row)) old) c.bits.ensures k
          ∙ written_same c.pack_row.result _ old;
    }
