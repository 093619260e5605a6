-- The search has waited since it stood there, and its best match is still to be decided.
use Rattle.std.proofs.Common.{◌≡◌, ◌+◌, ◌-◌, length}
use Rattle.ac_input.specs.declared.search.Anchored.TheVariants.{No}
use Rattle.ac_automaton.specs.Stream.{StreamProgress, Picks}
use Rattle.ac_automaton.specs.Stream.Search.Walk.{StandsAfter}
use Rattle.ac_automaton.proofs.stream.DecideLemmas.{HasWaited}
use Rattle.ac_automaton.proofs.stream.search.decide.decide.Given as goal

abbrev pub invariant-loop-at : goal.invariant-loop-at
invariant-loop-at g l = record {
  same : l.progress ≡ l.fn.progress;
  waited : (s : StreamProgress Picks) → StandsAfter g.A.Automaton l.automaton s l.start l.fn.progress l.held
      → HasWaited (g.A.Automaton.Reaches l.automaton No) s l.start l.sid l.at l.best l.initial.steps l.steps;
}

abbrev pub decreases-loop-at : goal.decreases-loop-at
decreases-loop-at g l = length l.held + l.from - l.at
