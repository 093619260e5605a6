-- Nothing was read, and fewer occurrences are left.
use Rattle.std.proofs.Common.{◌≡◌, ◌-◌, length}
use Rattle.ac_automaton.specs.Stream.{Occurrences, items_of, read_by}
use Rattle.ac_automaton.specs.Stream.Iter.{progress_of, reader_of}
use Rattle.example_callers.proofs.generic_stream_overlap.pass_held.Given as goal

abbrev pub invariant-loop : goal.invariant-loop
invariant-loop g l = record {
  reader : reader_of l.occurrences ≡ reader_of l.fn.occurrences;
  read : read_by (progress_of l.occurrences) ≡ read_by (progress_of l.fn.occurrences);
}

abbrev pub decreases-loop : goal.decreases-loop
decreases-loop g l =
    length (items_of Occurrences (progress_of l.occurrences).built.dictionary (read_by (progress_of l.occurrences)))
    - length (progress_of l.occurrences).given
