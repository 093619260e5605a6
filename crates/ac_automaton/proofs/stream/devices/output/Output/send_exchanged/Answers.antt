use Rattle.std.proofs.Common.{arith}
use Rattle.std.proofs.lemmas.Grind.{common_steps}
use Rattle.ac_automaton.proofs.stream.devices.output.Output.send_exchanged.Goals as goal

pub hold_back-requires-then-replacement-room : goal.hold_back-requires-then-replacement-room
hold_back-requires-then-replacement-room g c = grind (arith, common_steps)

pub returns-then-replacement-room : goal.returns-then-replacement-room
returns-then-replacement-room g c = grind (arith, common_steps)
