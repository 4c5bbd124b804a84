use Rattle.std.proofs.Common.{sym, ◌∙◌}
use Rattle.places.proofs.RowParts.{filled-below}
use Rattle.custody.proofs.Keyed.{keyed_is}
use Rattle.custody.proofs.station.Station.alike.Goals as goal

pub message-left-requires : goal.message-left-requires
message-left-requires g c =
    let key = c.args.self.now.register.key in
    let r = keyed_is key _ _ (sym c.keyed.ensures ∙ c.in_ok-keyed.was) in
    record {
      engine = (r.binary_degree ∙ r.field_degree, r.binary_modulus, key.size.1);
      row = filled-below key.degree c.in_ok-a.a;
    }

pub message-right-requires : goal.message-right-requires
message-right-requires g c =
    let key = c.args.self.now.register.key in
    let r = keyed_is key _ _ (sym c.keyed.ensures ∙ c.in_ok-keyed.was) in
    let one = c.message-left.ensures in
    record {
      engine = (one.same.0 ∙ r.binary_degree ∙ r.field_degree, one.same.1 ∙ r.binary_modulus, key.size.1);
      row = filled-below key.degree c.in_ok-b.b;
    }
