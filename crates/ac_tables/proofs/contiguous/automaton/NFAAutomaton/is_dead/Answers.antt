use Rattle.std.proofs.Common.{◌∙◌, sym}
use Rattle.std.proofs.lemmas.Bool.{eqb-true, eq-eqb}
use Rattle.ac_automaton.proofs.automaton.NamedLemmas.{read-dead}
use Rattle.ac_tables.specs.Contiguous.Reads.{contiguous_named_states}
use Rattle.ac_tables.proofs.contiguous.automaton.NFAAutomaton.is_dead.Goals as goal

pub returns : goal.returns
returns c =
    let a = c.args.self.now in
    let at = c.as_u32.ensures.value in
    read-dead (contiguous_named_states a) c.args.sid _ (λ anchored names fits met. (
      λ none. eq-eqb c.as_u32.result 0 (at ∙ (fits.1.dead anchored c.args.sid met).0 none),
      λ zero. (fits.1.dead anchored c.args.sid met).1 (sym at ∙ eqb-true c.as_u32.result 0 zero),
    ))
