-- Some turns have been made, each with the same reference to the reader.
use Rattle.std.proofs.Common.{◌≡◌, length}
use Rattle.ac_automaton.specs.Stream.{read_by}
use Rattle.ac_automaton.proofs.stream.StreamIterLemmas.{HasTurned, turns_left}
use Rattle.ac_automaton.proofs.stream.StreamIter.next_counted.Given as goal

abbrev pub invariant-loop-found : goal.invariant-loop-found
invariant-loop-found g l = record {
  turned : HasTurned g.R.Read.remaining (g.S.ItemSearch.progress l.fn.self.stream)
      (g.S.ItemSearch.progress l.self.stream) l.fn.self.reader.now l.self.reader.now l.initial.steps l.steps;
  same_reference : l.self.reader.ghost_name ≡ l.fn.self.reader.ghost_name;
}

abbrev pub decreases-loop-found : goal.decreases-loop-found
decreases-loop-found g l = turns_left (length (read_by (g.S.ItemSearch.progress l.self.stream))) l.self.reader.now.ended
