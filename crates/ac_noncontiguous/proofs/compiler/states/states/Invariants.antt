use Rattle.ac_noncontiguous.specs.Links.{by_state}
use Rattle.ac_noncontiguous.proofs.compiler.states.states.Given as goal
use Rattle.ac_noncontiguous.proofs.compiler.AssemblyLemmas.{AreKeptBelow}

abbrev pub invariant-loop-state : goal.invariant-loop-state
invariant-loop-state l = AreKeptBelow l.outlines l.at (by_state l.ranges) l.transitions l.rows l.state l.states.items
