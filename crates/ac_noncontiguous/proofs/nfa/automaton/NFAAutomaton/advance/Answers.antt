use Rattle.std.proofs.Common.{◌+◌, arith}
use Rattle.ac_automaton.proofs.skip.StopLemmas.{between-special, special-below}
use Rattle.ac_noncontiguous.specs.Nfa.Reads.{IsRead}
use Rattle.ac_noncontiguous.proofs.nfa.PassingLemmas.{may-read-by}
use Rattle.ac_noncontiguous.proofs.nfa.automaton.NFAAutomaton.advance.Goals as goal

pub read_to-requires-clause-may : goal.read_to-requires-clause-may
read_to-requires-clause-may c =
    let a = c.args.self.now in may-read-by
    (special-below a.prefilter a.tables.start (a.tables.start + 1) a.tables.max_match a.max_special
    c.new-special.result.last (omega arith) a.special c.new-special.ensures.last)

pub returns-clause-goes : goal.returns-clause-goes
returns-clause-goes c =
    let a = c.args.self.now in between-special (IsRead a c.args.anchored) a.max_special c.new-special.result c.args.sid
    c.args.bytes.now c.read_to.result c.new-special.ensures.first c.new-special.ensures.last c.requires
    c.read_to.ensures.goes
