-- Between two reads, all that is ready was written.
use Rattle.std.proofs.Common.{◌-◌}
use Rattle.ac_input.specs.declared.search.Anchored.TheVariants.{No}
use Rattle.ac_automaton.proofs.stream.mask.words.WordEndLemmas.{HasWrittenWords}
use Rattle.ac_automaton.proofs.stream.mask.words.mask_to_end.Given as goal

abbrev pub invariant-loop-n : goal.invariant-loop-n
invariant-loop-n g l =
    HasWrittenWords g.R.Read.remaining g.W.Write.contents (g.A.Automaton.built l.automaton)
    (g.A.Automaton.Reaches l.automaton No) l.mask l.fn.reader l.reader l.fn.writer l.writer l.stream l.fn.steps l.steps

abbrev pub decreases-loop-n : goal.decreases-loop-n
decreases-loop-n g l = 18446744073709551616 - l.stream.place.at
