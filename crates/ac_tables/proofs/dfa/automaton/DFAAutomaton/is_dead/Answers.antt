use Rattle.std.proofs.Common.{◌∙◌, sym}
use Rattle.std.specs.Prelude.{◌==◌}
use Rattle.std.proofs.lemmas.Bool.{eqb-true, eq-eqb}
use Rattle.ac_tables.proofs.dfa.ReadLemmas.{dead-said}
use Rattle.ac_tables.proofs.dfa.automaton.DFAAutomaton.is_dead.Goals as goal

pub returns : goal.returns
returns c =
    let at = c.as_u32.ensures.value in
    dead-said c.args.self.now c.args.sid (c.as_u32.result == 0)
    (λ yes. sym at ∙ eqb-true c.as_u32.result 0 yes, λ zero. eq-eqb c.as_u32.result 0 (at ∙ zero))
