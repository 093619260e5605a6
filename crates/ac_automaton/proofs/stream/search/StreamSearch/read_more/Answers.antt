use Rattle.std.proofs.Common.{arith}
use Rattle.std.proofs.lemmas.Grind.{common_steps}
use Rattle.ac_automaton.proofs.stream.search.StreamSearch.read_more.Goals as goal

pub returns-clause-read : goal.returns-clause-read
returns-clause-read g c = grind (arith, common_steps)

pub make_room-requires : goal.make_room-requires
make_room-requires g c = grind (arith, common_steps)

pub fill-requires-clause-open : goal.fill-requires-clause-open
fill-requires-clause-open g c = grind (arith, common_steps)

pub fill-requires-clause-unclosed : goal.fill-requires-clause-unclosed
fill-requires-clause-unclosed g c = grind (arith, common_steps)

pub fill-requires-clause-searched : goal.fill-requires-clause-searched
fill-requires-clause-searched g c = grind (arith, common_steps)

pub fill-requires-clause-room : goal.fill-requires-clause-room
fill-requires-clause-room g c = grind (arith, common_steps)

pub returns-clause-counts : goal.returns-clause-counts
returns-clause-counts g c = grind (arith, common_steps)

pub returns-clause-kept : goal.returns-clause-kept
returns-clause-kept g c = grind (arith, common_steps)
