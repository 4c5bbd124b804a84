use Rattle.std.proofs.Common.{◌≡◌, ℕ, Result, refl, ap, ◌∙◌, arith}
use Rattle.std.proofs.lemmas.Result.{MatchResult-weaker}
use Rattle.script.specs.Asked.{Asked}
use Rattle.script.specs.Commands.{asked_of, command_of}
use Rattle.reading.specs.declared.fault.Fault.{Fault}
use Rattle.reading.specs.declared.fault.Fault.TheVariants.{Unread, NoSuchEngine}
use Rattle.reading.specs.Lines.{words_left}
use Rattle.session.specs.Commands.{carried, not_read, not_made}
use Rattle.session.proofs.Understood.{ok_due, err_due}
use Rattle.session.proofs.state.Session.answer_words.Goals as goal

pub returns-in-Ok : goal.returns-in-Ok
returns-in-Ok c =
    let name = c.args.name.now in
    let words = words_left c.args.words in
    let due : ℕ → Result Asked Fault = λ n. command_of name n words in
    record {
      replied = MatchResult-weaker c.carry_out.result c.carry_out.ensures.carried
          (λ answer x. carried c.in-Ok.command (ok_due asked_of _ c.read.result _ c.read.ensures c.in-Ok.is ∙ ap due c.degree.ensures) x) (λ _ same. same);
      promised = c.carry_out.ensures.promised;
    }

pub returns-in-Unread : goal.returns-in-Unread
returns-in-Unread c =
    let due : ℕ → Result Asked Fault = λ n. command_of c.args.name.now n (words_left c.args.words) in
    record {
      replied =
          not_read _ (err_due asked_of _ c.in-Err.fault (Unread c.in-Unread.what) c.in-Unread.is (λ e. let z : ◌≡◌ {A = ℕ} 0 1 = cc in absurd (omega arith)) c.in-Err.ensures ∙ ap due c.degree.ensures)
          (record { answers = refl; hand = refl });
      promised = λ promised. promised;
    }

pub returns-in-NoSuchEngine : goal.returns-in-NoSuchEngine
returns-in-NoSuchEngine c =
    let due : ℕ → Result Asked Fault = λ n. command_of c.args.name.now n (words_left c.args.words) in
    record {
      replied =
          not_made (err_due asked_of _ c.in-Err.fault NoSuchEngine c.in-NoSuchEngine.is (λ e. let z : ◌≡◌ {A = ℕ} 0 1 = cc in absurd (omega arith)) c.in-Err.ensures ∙ ap due c.degree.ensures)
          (record { answers = refl; hand = refl });
      promised = λ promised. promised;
    }
