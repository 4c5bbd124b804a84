use Rattle.worked_cases.proofs.Octets.{last_word, tie, past_tie}
use Rattle.worked_cases.proofs.Rings.{middle_squared, top_squared, thrice, third-inverts, third_is}
use Rattle.worked_cases.proofs.Inverses.{no_key}
use Rattle.worked_cases.proofs.Wrappings.{wrap_is, allowance_is, wraps, trims, noisy_allowance, too_noisy}
use Rattle.worked_cases.proofs.worked_cases_hold.Goals as goal

pub returns : goal.returns
returns c = record {
  middle_squared = middle_squared;
  top_squared = top_squared;
  last_word = last_word;
  tie = tie;
  past_tie = past_tie;
  small_key = (thrice, third-inverts, third_is);
  no_key = no_key;
  wraps = (wrap_is, allowance_is, wraps);
  trims = trims;
  too_noisy = (noisy_allowance, too_noisy);
}
