-- Goals that `search` leaves to `grind`.
use Rattle.std.proofs.Common.{arith}
use Rattle.std.proofs.lemmas.Grind.{common_steps}
use Rattle.ac_automaton.proofs.stream.words.held.HeldText.make_room.Goals as goal

pub overflow_sub-place : goal.overflow_sub-place
overflow_sub-place c = grind (arith, common_steps)

pub roll-requires-clause-full : goal.roll-requires-clause-full
roll-requires-clause-full c = grind (arith, common_steps)

pub roll-requires-clause-from : goal.roll-requires-clause-from
roll-requires-clause-from c = grind (arith, common_steps)

pub roll-requires-clause-kept : goal.roll-requires-clause-kept
roll-requires-clause-kept c = grind (arith, common_steps)

pub invariant_of-self : goal.invariant_of-self
invariant_of-self c = grind (arith, common_steps)

pub same-self : goal.same-self
same-self c = grind (arith, common_steps)

pub returns-then-is_full-clause-rolls : goal.returns-then-is_full-clause-rolls
returns-then-is_full-clause-rolls c = grind (arith, common_steps)

pub returns-then-is_full-clause-counts : goal.returns-then-is_full-clause-counts
returns-then-is_full-clause-counts c = grind (arith, common_steps)

pub returns-else-is_full-clause-rolls : goal.returns-else-is_full-clause-rolls
returns-else-is_full-clause-rolls c = grind (arith, common_steps)

pub returns-else-is_full-clause-counts : goal.returns-else-is_full-clause-counts
returns-else-is_full-clause-counts c = grind (arith, common_steps)
