use Rattle.std.proofs.Common.{arith}
use Rattle.std.proofs.lemmas.Grind.{common_steps}
use Rattle.ac_automaton.proofs.masking.mask_longest.Goals as goal

pub match_pattern-requires-clause-within : goal.match_pattern-requires-clause-within
match_pattern-requires-clause-within g c = grind (arith, common_steps)
