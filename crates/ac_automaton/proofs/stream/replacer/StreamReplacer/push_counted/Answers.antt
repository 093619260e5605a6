-- A push goes to the search, unless some text is still to be handed out.
use Rattle.std.proofs.Common.{arith}
use Rattle.std.proofs.lemmas.Grind.{common_steps}
use Rattle.ac_automaton.proofs.stream.replacer.StreamReplacer.push_counted.Goals as goal
use Rattle.ac_automaton.proofs.stream.StreamCountLemmas.{StreamCounts-none}

pub returns-then-waits-clause-counts : goal.returns-then-waits-clause-counts
returns-then-waits-clause-counts g c = StreamCounts-none c.args.self.now.search c.args.steps.now

pub invariant_of-self : goal.invariant_of-self
invariant_of-self g c = grind (arith, common_steps)

pub returns-clause-pushes : goal.returns-clause-pushes
returns-clause-pushes g c = grind (arith, common_steps)
