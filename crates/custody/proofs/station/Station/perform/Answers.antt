use Rattle.std.proofs.Common.{length, sym, ap, ◌∙◌}
use Rattle.keying.specs.Told.{Told}
use Rattle.custody.specs.Calls.{answer}
use Rattle.custody.specs.Stations.{told_by}
use Rattle.places.specs.Views.{book}
use Rattle.custody.proofs.Performing.{declined}
use Rattle.custody.proofs.station.Station.perform.Goals as goal

pub returns-in_err-deposit-in-Deposit-clause-answers : goal.returns-in_err-deposit-in-Deposit-clause-answers
returns-in_err-deposit-in-Deposit-clause-answers g c =
    let S = c.args.self.now in
    let T : Told = told_by g.P.RingEngine g.Q.RingEngine S in
    declined _ _ _ c.from_residual.ensures.1 (sym c.deposit.ensures.answers ∙ c.in_err-deposit-in-Deposit.was)
    ∙ ap (λ x. answer S.register.key T (book S.register) x (length c.args.buffer.now)) (sym c.in-Deposit.is)

pub returns-in_err-join-in-Join-clause-answers : goal.returns-in_err-join-in-Join-clause-answers
returns-in_err-join-in-Join-clause-answers g c =
    let S = c.args.self.now in
    let T : Told = told_by g.P.RingEngine g.Q.RingEngine S in
    declined _ _ _ c.from_residual-in_err-join-in-Join.ensures.1 (sym c.join.ensures.answers ∙ c.in_err-join-in-Join.was)
    ∙ ap (λ x. answer S.register.key T (book S.register) x (length c.args.buffer.now)) (sym c.in-Join.is)

pub returns-in_err-trim-in-Trim-clause-answers : goal.returns-in_err-trim-in-Trim-clause-answers
returns-in_err-trim-in-Trim-clause-answers g c =
    let S = c.args.self.now in
    let T : Told = told_by g.P.RingEngine g.Q.RingEngine S in
    declined _ _ _ c.from_residual-in_err-trim-in-Trim.ensures.1 (sym c.trim.ensures.answers ∙ c.in_err-trim-in-Trim.was)
    ∙ ap (λ x. answer S.register.key T (book S.register) x (length c.args.buffer.now)) (sym c.in-Trim.is)

pub returns-in_err-clear-in-Clear-clause-answers : goal.returns-in_err-clear-in-Clear-clause-answers
returns-in_err-clear-in-Clear-clause-answers g c =
    let S = c.args.self.now in
    let T : Told = told_by g.P.RingEngine g.Q.RingEngine S in
    declined _ _ _ c.from_residual-in_err-clear-in-Clear.ensures.1 (sym c.clear.ensures.answers ∙ c.in_err-clear-in-Clear.was)
    ∙ ap (λ x. answer S.register.key T (book S.register) x (length c.args.buffer.now)) (sym c.in-Clear.is)

pub returns-in_err-open-in-Open-clause-answers : goal.returns-in_err-open-in-Open-clause-answers
returns-in_err-open-in-Open-clause-answers g c =
    let S = c.args.self.now in
    let T : Told = told_by g.P.RingEngine g.Q.RingEngine S in
    declined _ _ _ c.from_residual-in_err-open-in-Open.ensures.1 (sym c.«open».ensures.answers ∙ c.in_err-open-in-Open.was)
    ∙ ap (λ x. answer S.register.key T (book S.register) x (length c.args.buffer.now)) (sym c.in-Open.is)

pub returns-in_err-hand_out-in-HandOut-clause-answers : goal.returns-in_err-hand_out-in-HandOut-clause-answers
returns-in_err-hand_out-in-HandOut-clause-answers g c =
    let S = c.args.self.now in
    let T : Told = told_by g.P.RingEngine g.Q.RingEngine S in
    declined _ _ _ c.from_residual-in_err-hand_out-in-HandOut.ensures.1 (sym c.hand_out.ensures.answers ∙ c.in_err-hand_out-in-HandOut.was)
    ∙ ap (λ x. answer S.register.key T (book S.register) x (length c.args.buffer.now)) (sym c.in-HandOut.is)
