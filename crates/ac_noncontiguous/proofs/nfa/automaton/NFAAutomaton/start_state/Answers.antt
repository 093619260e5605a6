use Rattle.std.proofs.Common.{ap, sym, ◌∙◌}
use Rattle.ac_input.specs.Input.{is_anchored}
use Rattle.ac_noncontiguous.proofs.nfa.ReadLemmas.{start_of, start-read}
use Rattle.ac_noncontiguous.proofs.nfa.automaton.NFAAutomaton.start_state.Goals as goal
use Rattle.ac_noncontiguous.proofs.nfa.automaton.NFAAutomaton.start_state.Goals.{in-No, in-Yes}

pub returns : goal.returns
returns c =
    let a = c.args.self.now in (
      tt,
      start-read a
          (elim c.match-anchored.branch [
            | in-No w ↦ w.result-is ∙ sym (ap (λ x. start_of a.tables.start (is_anchored x)) w.in-No.is)
            | in-Yes w ↦
                w.result-is
                ∙ (w.must.ensures
                ∙ (w.one_more.ensures.value ∙ sym (ap (λ x. start_of a.tables.start (is_anchored x)) w.in-Yes.is)))
          ]),
    )
