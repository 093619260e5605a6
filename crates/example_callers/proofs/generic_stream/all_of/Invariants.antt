use Rattle.std.proofs.Common.{◌-◌}
use Rattle.ac_automaton.specs.Stream.Iter.{progress_of, reader_of}
use Rattle.aho_corasick.proofs.lemmas.StreamLemmas.{HasFound}
use Rattle.example_callers.proofs.generic_stream.all_of.Given as goal

abbrev pub invariant-loop-next : goal.invariant-loop-next
invariant-loop-next g l =
    HasFound (λ r. r.now) (progress_of l.fn.matches).built l.fn.text (progress_of l.matches) (reader_of l.matches)
    l.found.items

abbrev pub decreases-loop-next : goal.decreases-loop-next
decreases-loop-next g l = 18446744073709551616 - (progress_of l.matches).last
