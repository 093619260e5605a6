-- The prefilter was made for the automaton's own patterns.
use Rattle.std.proofs.Common.{false, sym, subst}
use Rattle.ac_input.specs.Dictionary.{Dictionary, whole}
use Rattle.example_callers.specs.Callers.{IsSkip}
use Rattle.example_callers.proofs.packed.own_skip.Goals as goal

pub returns-in-Some : goal.returns-in-Some
returns-in-Some g c =
    let held = c.in-Some.ensures.value in
    let own = c.in-Some.ensures.made c.in-Some.prefilter.now (sym held) in
    subst (λ m. IsSkip (whole m c.args.text.now false) c.skip.result) own c.skip.ensures
