-- Goals that `search` leaves to `grind`.
use Rattle.std.proofs.Common.{arith}
use Rattle.std.proofs.lemmas.Grind.{common_steps}
use Rattle.ac_automaton.proofs.words.is_decided.Goals as goal

pub returns-then-over-clause-yes : goal.returns-then-over-clause-yes
returns-then-over-clause-yes g c = grind (arith, common_steps)

pub returns-then-over-clause-no : goal.returns-then-over-clause-no
returns-then-over-clause-no g c = grind (arith, common_steps)

pub returns-then-longest-passed-clause-yes : goal.returns-then-longest-passed-clause-yes
returns-then-longest-passed-clause-yes g c = grind (arith, common_steps)

pub returns-then-longest-passed-clause-no : goal.returns-then-longest-passed-clause-no
returns-then-longest-passed-clause-no g c = grind (arith, common_steps)

pub is_start-requires : goal.is_start-requires
is_start-requires g c = grind (arith, common_steps)

pub is_match-requires : goal.is_match-requires
is_match-requires g c = grind (arith, common_steps)

pub returns-then-is_start-clause-no : goal.returns-then-is_start-clause-no
returns-then-is_start-clause-no g c = grind (arith, common_steps)

pub returns-else-is_start-clause-yes : goal.returns-else-is_start-clause-yes
returns-else-is_start-clause-yes g c = grind (arith, common_steps)

pub returns-else-is_start-clause-no : goal.returns-else-is_start-clause-no
returns-else-is_start-clause-no g c = grind (arith, common_steps)
