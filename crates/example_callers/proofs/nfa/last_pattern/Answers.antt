-- The number of patterns is within the limit, so the last pattern has a number.
use Rattle.std.proofs.Common.{◌+◌, ◌≤◌, length, ap, ◌∙◌, arith}
use Rattle.std.specs.Coded.{le_prop}
use Rattle.std.proofs.Math.Logic.{∥∥₁_elim}
use Rattle.ac_input.specs.declared.primitives.number.TheConstants.{GREATEST}
use Rattle.ac_input.specs.Limits.{IsWithinLimits}
use Rattle.ac_noncontiguous.specs.Nfa.Reads.{dictionary}
use Rattle.example_callers.proofs.nfa.last_pattern.Goals as goal

pub must-requires : goal.must-requires
must-requires c =
    let m = dictionary c.args.nfa.now in
    let few : length m.patterns ≤ GREATEST + 1 =
    ∥∥₁_elim c.states_stand.ensures.within le_prop (λ (w : IsWithinLimits m). w.patterns) in
    let long = c.len-len.ensures ∙ ap length c.pattern_lens.ensures in
    omega (arith, few, long)
