use Rattle.std.proofs.Common.{take}
use Rattle.ac_input.specs.declared.search.Anchored.TheVariants.{Yes}
use Rattle.example_callers.proofs.states.is_over.Given as goal

abbrev pub invariant-loop-byte : goal.invariant-loop-byte
invariant-loop-byte g l = g.A.Automaton.Reaches l.automaton Yes (take l.byte-index l.text) l.sid
