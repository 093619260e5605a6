use Rattle.std.proofs.Common.{◌≡◌}
use Rattle.ac_noncontiguous.specs.Nfa.ReadCalls.{MayBeMet}
use Rattle.example_callers.proofs.nfa.lead_over.Given as goal

abbrev pub invariant-loop-byte : goal.invariant-loop-byte
invariant-loop-byte l = MayBeMet l.nfa l.anchored l.at × (l.fn.sid ≡ 0 → l.at ≡ 0)
