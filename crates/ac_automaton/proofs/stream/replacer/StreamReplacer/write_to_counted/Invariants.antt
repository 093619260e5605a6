-- Some slices were written, and the others are still to come.
use Rattle.std.proofs.Common.{◌-◌, length}
use Rattle.ac_literal.specs.Packed.{bytes_of}
use Rattle.ac_automaton.specs.Stream.{read_by}
use Rattle.ac_automaton.proofs.stream.ReplacerWriteLemmas.{HasWrittenOut}
use Rattle.ac_automaton.proofs.stream.replacer.StreamReplacer.write_to_counted.Given as goal

abbrev pub invariant-loop : goal.invariant-loop
invariant-loop g l =
    HasWrittenOut g.W.Write.contents (bytes_of l.replacements) l.fn.self l.self l.fn.writer l.writer l.fn.steps l.steps

abbrev pub decreases-loop : goal.decreases-loop
decreases-loop g l = length (read_by l.self.search) - l.self.at
