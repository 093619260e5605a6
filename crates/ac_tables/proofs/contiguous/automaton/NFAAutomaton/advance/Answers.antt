use Rattle.ac_automaton.proofs.skip.StopLemmas.{between-special, special-below}
use Rattle.ac_tables.specs.Contiguous.Reads.{IsContiguousRead}
use Rattle.ac_tables.proofs.contiguous.PassingLemmas.{starts-ordered}
use Rattle.ac_tables.proofs.contiguous.automaton.NFAAutomaton.advance.Goals as goal

pub read_skipping-requires-clause-stops : goal.read_skipping-requires-clause-stops
read_skipping-requires-clause-stops c =
    let a = c.args.self.now in
    special-below a.prefilter a.table.start a.table.start_anchored a.table.max_match a.max_special
    c.new-special.result.last (starts-ordered a) a.special c.new-special.ensures.last

pub returns-clause-goes : goal.returns-clause-goes
returns-clause-goes c =
    let a = c.args.self.now in between-special (IsContiguousRead a c.args.anchored) a.max_special c.new-special.result
    c.args.sid c.args.bytes.now c.read_skipping.result c.new-special.ensures.first c.new-special.ensures.last c.requires
    c.read_skipping.ensures.goes
