use Rattle.std.proofs.Common.{refl}
use Rattle.ac_automaton.proofs.automaton.NamedLemmas.{read-next, read-cost}
use Rattle.ac_tables.specs.Contiguous.Reads.{contiguous_named_states}
use Rattle.ac_tables.proofs.contiguous.NameLemmas.{names-are, read-is_met}
use Rattle.ac_tables.proofs.contiguous.automaton.NFALookUp.look_up.Goals as goal

pub next-requires : goal.next-requires
next-requires c = read-is_met c.args.self.now c.args.anchored c.args.sid c.requires

pub returns-clause-next : goal.returns-clause-next
returns-clause-next c =
    let a = c.args.self.now in
    read-next (contiguous_named_states a) c.args.anchored c.args.sid c.args.byte c.next.result (names-are a)
    (λ names fits met. (c.next.ensures names fits met).0)

pub returns-clause-cost : goal.returns-clause-cost
returns-clause-cost c =
    let a = c.args.self.now in
    read-cost (contiguous_named_states a) c.args.anchored c.args.sid c.args.byte c.next.result _ _ refl c.next.ensures
