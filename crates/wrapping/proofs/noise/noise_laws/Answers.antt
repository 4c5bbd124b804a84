use Rattle.wrapping.proofs.JoinLaws.{join_near}
use Rattle.wrapping.proofs.TrimLaws.{trim_near}
use Rattle.wrapping.proofs.WrapLaws.{wrap_near, wrap_fair, wrap_opens, allowance_covers}
use Rattle.wrapping.proofs.ExactErrors.{exact_whole, exact_one}
use Rattle.wrapping.proofs.noise.noise_laws.Goals as goal

pub returns : goal.returns
returns c = record {
  exact_whole = exact_whole;
  exact_one = exact_one;
  wrap_near = wrap_near;
  wrap_fair = wrap_fair;
  wrap_opens = wrap_opens;
  allowance_covers = allowance_covers;
  join_near = join_near;
  trim_near = trim_near;
}
