use Rattle.ac_automaton.proofs.skip.StopLemmas.{between-matching}
use Rattle.ac_tables.proofs.contiguous.PassingLemmas.{are-matching, look_ups}
use Rattle.ac_tables.proofs.contiguous.automaton.NFAAutomaton.advance_to_match.Goals as goal

pub read_skipping-requires-clause-stops : goal.read_skipping-requires-clause-stops
read_skipping-requires-clause-stops c = λ lt. c.new-matching.ensures.last

pub returns-clause-goes : goal.returns-clause-goes
returns-clause-goes c =
    let a = c.args.self.now in between-matching look_ups a 1 a.table.max_match c.new-matching.result c.args.anchored
    c.args.sid c.args.bytes.now c.read_skipping.result (are-matching a) c.new-matching.ensures.first
    c.new-matching.ensures.last c.requires c.read_skipping.ensures.goes
