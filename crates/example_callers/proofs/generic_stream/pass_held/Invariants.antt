use Rattle.std.proofs.Common.{◌≡◌, ◌-◌, length}
use Rattle.ac_automaton.specs.Stream.{read_by}
use Rattle.ac_automaton.specs.Stream.Iter.{progress_of, reader_of}
use Rattle.example_callers.proofs.generic_stream.pass_held.Given as goal

abbrev pub invariant-loop : goal.invariant-loop
invariant-loop g l = record {
  reader : reader_of l.matches ≡ reader_of l.fn.matches;
  read : read_by (progress_of l.matches) ≡ read_by (progress_of l.fn.matches);
}

abbrev pub decreases-loop : goal.decreases-loop
decreases-loop g l = length (read_by (progress_of l.matches)) - (progress_of l.matches).last
