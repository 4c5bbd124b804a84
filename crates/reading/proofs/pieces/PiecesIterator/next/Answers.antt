use Rattle.std.proofs.Common.{◌≡◌, [], ◌∷◌, length, sym, ap, arith}
use Rattle.reading.specs.Cuts.{cuts, pieces_left, parts_of}
use Rattle.reading.proofs.Cutting.{parts_split}
use Rattle.reading.proofs.pieces.PiecesIterator.next.Goals as goal

pub returns-in-Some : goal.returns-in-Some
returns-in-Some c =
    let separates = cuts c.args.self.now.separator in
    let steps : pieces_left c.args.self.now ≡ c.in-Some.part.now ∷ parts_of separates c.in-Some.rest.now =
    rw (c.in_ok-text.was, parts_split separates c.in_ok-text.text.now, sym c.in-Some.ensures) in
    let shorter = ap length steps in
    record { steps = steps; goes = record { on = λ _. (tt, tt, omega arith); keeps = tt; rests = λ _. tt } }

pub returns-in-None : goal.returns-in-None
returns-in-None c =
    let separates = cuts c.args.self.now.separator in
    let steps : pieces_left c.args.self.now ≡ c.in_ok-text.text.now ∷ [] =
    rw (c.in_ok-text.was, parts_split separates c.in_ok-text.text.now, sym c.in-None.ensures) in
    let shorter = ap length steps in
    record { steps = steps; goes = record { on = λ _. (tt, tt, omega arith); keeps = tt; rests = λ _. tt } }
