use Rattle.std.proofs.Common.{arith}
use Rattle.std.specs.Coded.{le_prop}
use Rattle.std.proofs.Math.Logic.{∥∥₁_elim}
use Rattle.ac_noncontiguous.proofs.nfa.IdleLemmas.{start-kept}
use Rattle.ac_noncontiguous.proofs.nfa.NFA.from_parts.Goals as goal

pub starters-requires : goal.starters-requires
starters-requires c = start-kept c.requires.parts.stands

pub invariant_of-result-clause-idle : goal.invariant_of-result-clause-idle
invariant_of-result-clause-idle c = ∣ c.starters.ensures ∣₁

pub must-start_anchored-requires : goal.must-start_anchored-requires
must-start_anchored-requires c =
    ∥∥₁_elim c.requires.parts.stands le_prop
    (λ w. omega (arith, w.1.texts.starts, w.1.few, c.one_more.ensures))
