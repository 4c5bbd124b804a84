use Rattle.std.proofs.Common.{◌≡◌, ◌-◌, ◌≤◌, length, take, ap, ◌∙◌, arith, length-take}
use Rattle.packing.specs.Digits.{packed}
use Rattle.packing.specs.Answers as packing
use Rattle.places.proofs.Outgoing.{key_answer, written_same}
use Rattle.products.proofs.Fronts.{take_all-below}
use Rattle.places.proofs.outputs.publish.Goals as goal

pub returns : goal.returns
returns c =
    let key = c.args.key.now in
    let n = key.degree in
    let old = c.args.out.now in
    let k : n - 0 ≡ n = omega arith in
    let low : n ≤ 1024 = key.size.1 in
    let long = key.h_cut.0 in
    record {
      answers = c.pack_key.ensures.answers
          ∙ ap (λ i. packing.pack_key_answer n (take i key.h) (length old)) k
          ∙ key_answer n (take n key.h) (length old) c.requires low key.size.0 (omega (arith, length-take n key.h, long)) (take_all-below 3457 n key.h key.h_below);
      writes = c.pack_key.ensures.writes
          ∙ ap (λ i. packing.written c.pack_key.result (packed 12 (take i key.h)) old) k
          ∙ written_same c.pack_key.result _ old;
    }
