-- The search may read on by the skips; by rows, it isn't anchored.
use Rattle.std.proofs.Common.{subst}
use Rattle.ac_automaton.specs.Automaton.{IsReached}
use Rattle.ac_tables.specs.Contiguous.Reads.{IsContiguousRead}
use Rattle.ac_tables.proofs.contiguous.PassingLemmas.{may-read-by}
use Rattle.ac_tables.proofs.contiguous.NFA.read_skipping.Goals as goal

pub skip_rows-requires-clause-reached : goal.skip_rows-requires-clause-reached
skip_rows-requires-clause-reached c =
    subst (λ anchored. IsReached (IsContiguousRead c.args.self.now anchored) c.args.sid) c.in-Some-No.is-1
    c.requires.reached

pub read_to-requires-clause-may : goal.read_to-requires-clause-may
read_to-requires-clause-may c = may-read-by c.args.self.now c.args.to c.requires.stops
