use Rattle.std.proofs.Common.{◌≡◌, ◌-◌, false, length}
use Rattle.ac_automaton.specs.Stream.{StreamCounts, read_by}
use Rattle.ac_automaton.proofs.stream.pump.pump.Given as goal
use Rattle.ac_automaton.proofs.stream.PumpReadLemmas.{HasPumped}

abbrev pub invariant-loop-stream : goal.invariant-loop-stream
invariant-loop-stream g l = record {
  pumped : HasPumped g.K.Sink.handling g.S.ItemSearch.sequence g.R.Read.remaining
      (g.S.ItemSearch.progress l.fn.stream).built l.fn.reader (l.fn.sink, l.fn.writer)
      (g.S.ItemSearch.progress l.stream) l.at l.reader (l.sink, l.writer);
  counted : StreamCounts (g.S.ItemSearch.progress l.fn.stream) (g.S.ItemSearch.progress l.stream) l.fn.steps l.steps;
  more : l.reader.ended ≡ false;
}

abbrev pub decreases-loop-stream : goal.decreases-loop-stream
decreases-loop-stream g l = 18446744073709551616 - length (read_by (g.S.ItemSearch.progress l.stream))
