-- Between two reads, all that is ready was written.
use Rattle.std.proofs.Common.{◌≡◌, ◌-◌, false, length}
use Rattle.ac_automaton.specs.Stream.Mask.{MaskCounts, passed_to}
use Rattle.ac_automaton.proofs.stream.StreamMaskEndLemmas.{HasWritten}
use Rattle.ac_automaton.proofs.stream.mask.mask_to_end.Given as goal

abbrev pub invariant-loop-writer : goal.invariant-loop-writer
invariant-loop-writer g l = record {
  written : HasWritten g.R.Read.remaining g.W.Write.contents l.fn.stream.built l.fn.stream.mask l.fn.reader l.fn.writer l.stream
      l.reader l.writer;
  counted : MaskCounts l.fn.stream l.stream l.fn.steps l.steps;
  more : l.reader.ended ≡ false;
}

abbrev pub decreases-loop-writer : goal.decreases-loop-writer
decreases-loop-writer g l = 18446744073709551616 - length (passed_to l.stream)
