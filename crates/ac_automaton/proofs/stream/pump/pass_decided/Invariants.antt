use Rattle.std.proofs.Common.{◌-◌, length}
use Rattle.ac_automaton.specs.Stream.{StreamCounts, items_of, read_by}
use Rattle.ac_automaton.specs.Stream.Pump.{PassesItems}
use Rattle.ac_automaton.proofs.stream.pump.pass_decided.Given as goal

abbrev pub invariant-loop-item : goal.invariant-loop-item
invariant-loop-item g l = record {
  passed : PassesItems g.K.Sink.handling (g.S.ItemSearch.progress l.fn.stream) (g.S.ItemSearch.progress l.stream) l.fn.at
      l.passed (l.fn.sink, l.fn.writer) (l.sink, l.writer);
  counted : StreamCounts (g.S.ItemSearch.progress l.fn.stream) (g.S.ItemSearch.progress l.stream) l.fn.steps l.steps;
}

abbrev pub decreases-loop-item : goal.decreases-loop-item
decreases-loop-item g l =
    length (items_of g.S.ItemSearch.sequence (g.S.ItemSearch.progress l.stream).built.dictionary
    (read_by (g.S.ItemSearch.progress l.stream))) - length (g.S.ItemSearch.progress l.stream).given
