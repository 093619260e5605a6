use Rattle.std.proofs.Common.{take}
use Rattle.ac_input.specs.declared.search.Anchored.TheVariants.{No}
use Rattle.example_callers.proofs.states.ends_with_any.Given as goal

abbrev pub invariant-loop-byte : goal.invariant-loop-byte
invariant-loop-byte g l = g.A.Automaton.Reaches l.automaton No (take l.byte-index l.text) l.sid
