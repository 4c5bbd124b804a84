use Rattle.std.proofs.Common.{IsUtf8, sym, ap, ◌∙◌, inl}
use Rattle.reading.specs.Cuts.{first, others}
use Rattle.reading.specs.Lines.{words_of, words_left}
use Rattle.session.specs.Hands.{at_hand}
use Rattle.session.proofs.Speaking.{no_error, spoken}
use Rattle.session.proofs.state.Session.answer.Goals as goal

pub returns : goal.returns
returns c =
    let line = c.args.line.now in
    let words_are = c.new-words.ensures in
    let taken = c.in-Some.ensures in
    let x = c.in_ok-answer.ensures in
    record {
      replied = inl (
        no_error _ (IsUtf8 line) _ c.from_utf8.result c.from_utf8.ensures.cases (sym c.is_err.ensures.value ∙ c.if-is_err.false),
        spoken (at_hand c.args.self.now) (words_of line) c.in-Some.word.now (words_left c.optional.new.self)
            (record { name = c.name_of.result; answer = c.in_ok-answer.answer }) (at_hand c.answer_words.new.self)
            (taken.answers ∙ ap first words_are) (taken.leaves ∙ ap others words_are)
            (sym c.is_comment.ensures ∙ c.if-is_comment.false) c.name_of.ensures x.replied,
      );
      promised = x.promised;
    }
