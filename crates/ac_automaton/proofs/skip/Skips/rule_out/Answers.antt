-- The openings that there are are those of the dictionary.
use Rattle.ac_automaton.proofs.skip.PassingLemmas.{opened}
use Rattle.ac_automaton.proofs.skip.Skips.rule_out.Goals as goal

pub returns-in-Some : goal.returns-in-Some
returns-in-Some c says m are = c.rule_out.ensures says m (opened c.in-Some.is are)
