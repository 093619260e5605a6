use Rattle.std.proofs.Common.{arith}
use Rattle.std.proofs.lemmas.Grind.{common_steps}
use Rattle.ac_automaton.proofs.stream.devices.WriteWholeLoop.{written_more}
use Rattle.ac_automaton.proofs.stream.devices.watched.write_whole.Goals as goal

pub loop-written-preserved : goal.loop-written-preserved
loop-written-preserved g c =
    written_more c.loop-written.invariant c.in-Ok.ensures.took (omega arith) c.in-Ok.ensures.reads
    c.in-Ok.ensures.device

pub returns-clause-took : goal.returns-clause-took
returns-clause-took g c = grind (arith, common_steps)

pub overflow_add-written : goal.overflow_add-written
overflow_add-written g c = grind (arith, common_steps)

pub returns-in-Ok-eq0-clause-took : goal.returns-in-Ok-eq0-clause-took
returns-in-Ok-eq0-clause-took g c = grind (arith, common_steps)

pub returns-in-Err-clause-took : goal.returns-in-Err-clause-took
returns-in-Err-clause-took g c = grind (arith, common_steps)
