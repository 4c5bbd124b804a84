use Rattle.std.proofs.Common.{sym, ◌∙◌}
use Rattle.places.proofs.RowParts.{filled-below}
use Rattle.custody.proofs.Keyed.{keyed_is}
use Rattle.custody.proofs.station.Station.open.Goals as goal

pub decode-requires : goal.decode-requires
decode-requires g c =
    let key = c.args.self.now.register.key in
    let r = keyed_is key _ _ (sym c.keyed.ensures ∙ c.in_ok-keyed.was) in
    record {
      engine = (r.binary_degree ∙ r.field_degree, r.binary_modulus, key.size.1);
      row = filled-below key.degree c.in_ok-filled.filled;
    }
