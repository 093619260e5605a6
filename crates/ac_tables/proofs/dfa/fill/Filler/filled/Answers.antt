use Rattle.std.proofs.Common.{arith}
use Rattle.std.proofs.lemmas.Grind.{common_steps}
use Rattle.ac_tables.proofs.dfa.fill.Filler.filled.Goals as goal

pub fill_all-requires-clause-blank : goal.fill_all-requires-clause-blank
fill_all-requires-clause-blank c = grind (arith, common_steps)

pub returns : goal.returns
returns c = grind (arith, common_steps)
