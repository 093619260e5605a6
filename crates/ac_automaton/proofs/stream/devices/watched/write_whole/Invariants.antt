use Rattle.std.proofs.Common.{length, ◌-◌}
use Rattle.ac_automaton.proofs.stream.devices.WriteWholeLoop.{HasWritten}
use Rattle.ac_automaton.proofs.stream.devices.watched.write_whole.Given as goal

abbrev pub invariant-loop-written : goal.invariant-loop-written
invariant-loop-written g l = HasWritten g.W.Write.contents l.fn.writer l.writer l.bytes l.written

abbrev pub decreases-loop-written : goal.decreases-loop-written
decreases-loop-written g l = length l.bytes - l.written
