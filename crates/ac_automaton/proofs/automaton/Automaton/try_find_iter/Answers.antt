-- The walk begins with all picks of its input left.
use Rattle.std.proofs.Common.{rules}
use Rattle.ac_automaton.proofs.in_memory.iter.ItemsLemmas.{from-answers, from-few, from-in-order}
use Rattle.ac_automaton.proofs.automaton.Automaton.try_find_iter.Goals as goal

pub returns-clause-answer : goal.returns-clause-answer
returns-clause-answer g c =
    from-answers (g.Self.Automaton.built c.args.self.now) (g.Self.Automaton.supports c.args.self.now) c.args.input
    c.try_find_iter_from.result (search rules) c.try_find_iter_from.ensures

pub returns-clause-few : goal.returns-clause-few
returns-clause-few g c =
    from-few (g.Self.Automaton.built c.args.self.now) (g.Self.Automaton.supports c.args.self.now) c.args.input
    c.try_find_iter_from.result (search rules) (search rules) c.try_find_iter_from.ensures

pub returns-clause-lie : goal.returns-clause-lie
returns-clause-lie g c =
    from-in-order (g.Self.Automaton.built c.args.self.now) (g.Self.Automaton.supports c.args.self.now) c.args.input
    c.try_find_iter_from.result (search rules) (search rules) c.try_find_iter_from.ensures
