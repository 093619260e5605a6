-- An unanchored search reads on by the rows, if there are any.
use Rattle.std.proofs.Common.{subst}
use Rattle.ac_automaton.specs.Automaton.{IsReached}
use Rattle.ac_tables.specs.Contiguous.Reads.{IsContiguousRead}
use Rattle.ac_tables.proofs.contiguous.automaton.NFALookUp.read_until.Goals as goal

pub read_rows-requires-clause-reached : goal.read_rows-requires-clause-reached
read_rows-requires-clause-reached c =
    subst (λ a. IsReached (IsContiguousRead c.args.self.now a) c.args.sid) c.in-No.is c.requires

pub read_free-requires : goal.read_free-requires
read_free-requires c =
    subst (λ a. IsReached (IsContiguousRead c.args.self.now a) c.args.sid) c.in-No.is c.requires
