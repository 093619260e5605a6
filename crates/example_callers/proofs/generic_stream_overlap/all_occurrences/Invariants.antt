-- The occurrences collected are those that the search returned.
use Rattle.ac_automaton.specs.Stream.{Occurrences}
use Rattle.ac_automaton.specs.Stream.Iter.{progress_of, items_left, reader_of}
use Rattle.aho_corasick.proofs.lemmas.StreamLemmas.{HasFound}
use Rattle.example_callers.proofs.generic_stream_overlap.all_occurrences.Given as goal

abbrev pub invariant-loop-next : goal.invariant-loop-next
invariant-loop-next g l =
    HasFound (λ r. r.now) (g.A.Automaton.built l.automaton) l.fn.text (progress_of l.occurrences)
    (reader_of l.occurrences) l.found.items

abbrev pub decreases-loop-next : goal.decreases-loop-next
decreases-loop-next g l = items_left Occurrences (progress_of l.occurrences) (reader_of l.occurrences).ended
