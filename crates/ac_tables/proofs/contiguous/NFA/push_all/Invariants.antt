use Rattle.ac_tables.specs.Contiguous.NearReads.{AreNextsFound}
use Rattle.ac_tables.proofs.contiguous.NFA.push_all.Given as goal

abbrev pub invariant-loop-byte : goal.invariant-loop-byte
invariant-loop-byte l = AreNextsFound l.self l.fn.most l.fn.sid l.initial.found.items l.found.items
