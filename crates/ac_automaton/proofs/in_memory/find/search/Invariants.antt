-- How far the search has come, and that it counted each byte that it passed.
use Rattle.std.proofs.Common.{◌-◌}
use Rattle.ac_input.specs.Work.{HasCounted}
use Rattle.ac_automaton.specs.Automaton.{prefilter_for, searched}
use Rattle.ac_automaton.proofs.in_memory.find.FindLemmas.{HasCome}
use Rattle.ac_automaton.proofs.in_memory.find.search.Given as goal

abbrev pub invariant-loop-found : goal.invariant-loop-found
invariant-loop-found g l =
    let b = g.A.Automaton.built l.automaton in
    HasCome b.deterministic (searched b l.input) l.at l.fn.steps l.steps
    × HasCounted (prefilter_for b l.input.anchored) (l.at - l.input.span.start) l.fn.steps l.steps

abbrev pub decreases-loop-found : goal.decreases-loop-found
decreases-loop-found g l = l.input.span.end - l.at
