use Rattle.ac_tables.specs.Dfa.Reads.{dfa_named_states}
use Rattle.ac_automaton.proofs.automaton.NamedLemmas.{read-cost-one}
use Rattle.ac_tables.proofs.dfa.ReadLemmas.{read-row, row-leads}
use Rattle.ac_tables.proofs.dfa.DFA.step.Goals as goal

pub next-requires-clause-row : goal.next-requires-clause-row
next-requires-clause-row c = read-row c.args.self.now c.args.anchored c.args.sid c.requires.reached

pub returns-clause-next : goal.returns-clause-next
returns-clause-next c =
    row-leads c.args.self.now c.args.anchored c.args.sid c.args.byte c.next.result c.ranges.byte.fits c.next.ensures

pub returns-clause-cost : goal.returns-clause-cost
returns-clause-cost c = λ text before after reads g h.
    let a = c.args.self.now in
    read-cost-one (dfa_named_states a c.args.anchored) c.args.anchored c.args.sid c.args.byte _ _ c.look.ensures text
    before after reads g h
