use Rattle.std.proofs.Common.{length, ap, ◌∙◌}
use Rattle.packing.specs.Digits.{packed}
use Rattle.packing.specs.Answers.{written}
use Rattle.packing.proofs.KeyTrips.{key_row_answer}
use Rattle.packing.proofs.keys.write_key.Goals as goal

pub returns : goal.returns
returns c =
    let row = c.args.row.now in
    let out = c.args.out.now in
    let obeyed = c.pack_row.ensures.answers ∙ key_row_answer row (length out) c.requires.residues c.requires.fills in
    record {
      answers = obeyed;
      writes = c.pack_row.ensures.writes ∙ ap (λ r. written r (packed 12 row) out) obeyed;
    }
