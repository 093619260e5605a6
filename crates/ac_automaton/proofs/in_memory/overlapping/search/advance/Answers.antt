-- Goals that `search` leaves to `grind`.
use Rattle.std.proofs.Common.{arith}
use Rattle.std.proofs.lemmas.Grind.{common_steps}
use Rattle.ac_automaton.proofs.in_memory.overlapping.search.advance.Goals as goal

pub show_next-requires-clause-starts : goal.show_next-requires-clause-starts
show_next-requires-clause-starts g c = grind (arith, common_steps)

pub show_next-requires-clause-stands : goal.show_next-requires-clause-stands
show_next-requires-clause-stands g c = grind (arith, common_steps)

pub returns-in-Over-clause-shows : goal.returns-in-Over-clause-shows
returns-in-Over-clause-shows g c = grind (arith, common_steps)

pub returns-in-Over-clause-pays : goal.returns-in-Over-clause-pays
returns-in-Over-clause-pays g c = grind (arith, common_steps)

pub returns-in-Over-clause-counts : goal.returns-in-Over-clause-counts
returns-in-Over-clause-counts g c = grind (arith, common_steps)

pub returns-in-At-clause-shows : goal.returns-in-At-clause-shows
returns-in-At-clause-shows g c = grind (arith, common_steps)

pub returns-in-At-clause-pays : goal.returns-in-At-clause-pays
returns-in-At-clause-pays g c = grind (arith, common_steps)

pub returns-in-At-clause-counts : goal.returns-in-At-clause-counts
returns-in-At-clause-counts g c = grind (arith, common_steps)
