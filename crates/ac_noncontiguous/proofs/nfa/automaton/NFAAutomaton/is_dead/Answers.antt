use Rattle.std.proofs.Common.{◌∙◌, sym}
use Rattle.std.proofs.lemmas.Bool.{eqb-true, eq-eqb}
use Rattle.ac_noncontiguous.proofs.nfa.ReadLemmas.{dead-said}
use Rattle.ac_noncontiguous.proofs.nfa.automaton.NFAAutomaton.is_dead.Goals as goal

pub returns : goal.returns
returns c =
    let at = c.as_u32.ensures.value in
    dead-said c.args.self.now
    ((λ dead. sym at ∙ eqb-true c.as_u32.result 0 dead), (λ is. eq-eqb c.as_u32.result 0 (at ∙ is)))
