use Rattle.std.proofs.Common.{ap, sym, ◌∙◌}
use Rattle.ac_input.specs.Input.{is_anchored}
use Rattle.ac_tables.proofs.contiguous.NameLemmas.{nfa_start_of, start-read}
use Rattle.ac_tables.proofs.contiguous.automaton.NFAAutomaton.start_state.Goals as goal
use Rattle.ac_tables.proofs.contiguous.automaton.NFAAutomaton.start_state.Goals.{in-No, in-Yes}

pub returns : goal.returns
returns c =
    let a = c.args.self.now in (
      tt,
      start-read a c.args.anchored c.match-anchored.result
          (elim c.match-anchored.branch [
            | in-No w ↦ w.result-is ∙ sym (ap (λ x. nfa_start_of a.table (is_anchored x)) w.in-No.is)
            | in-Yes w ↦ w.result-is ∙ sym (ap (λ x. nfa_start_of a.table (is_anchored x)) w.in-Yes.is)
          ]),
    )
