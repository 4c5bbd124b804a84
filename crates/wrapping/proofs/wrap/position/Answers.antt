use Rattle.std.proofs.Common.{◌%◌, get_or, ap, ◌∙◌}
use Rattle.code.specs.Words.{word}
use Rattle.wrapping.specs.Wraps.{position}
use Rattle.wrapping.proofs.wrap.position.Goals as goal

pub returns : goal.returns
unfolding position
returns c = ap (λ w. get_or w (c.args.i % 8) 0) (c.word-word.ensures ∙ ap word c.number_at.ensures)
