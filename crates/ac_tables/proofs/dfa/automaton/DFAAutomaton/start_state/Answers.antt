use Rattle.std.proofs.Common.{ap, sym, ◌∙◌}
use Rattle.ac_input.specs.Input.{is_anchored}
use Rattle.ac_tables.specs.Dfa.Table.{start_by}
use Rattle.ac_tables.proofs.dfa.ReadLemmas.{start-read}
use Rattle.ac_tables.proofs.dfa.automaton.DFAAutomaton.start_state.Goals as goal
use Rattle.ac_tables.proofs.dfa.automaton.DFAAutomaton.start_state.Goals.{in-No, in-Yes}

pub returns-then-serves : goal.returns-then-serves
returns-then-serves c =
    let a = c.args.self.now in
    let serves = c.serves.ensures.0 c.if-serves.true in (
      serves,
      start-read a c.args.anchored c.match-anchored.start.0 serves
          (elim c.match-anchored.branch [
            | in-No w ↦ ap (λ p. p.0) w.start-is ∙ sym (ap (λ x. start_by a.table (is_anchored x)) w.in-No.is)
            | in-Yes w ↦ ap (λ p. p.0) w.start-is ∙ sym (ap (λ x. start_by a.table (is_anchored x)) w.in-Yes.is)
          ]),
    )
