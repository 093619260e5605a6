use Rattle.ac_tables.specs.Contiguous.NearReads.{AreNextsFound}
use Rattle.ac_tables.proofs.contiguous.NFA.push_listed.Given as goal

abbrev pub invariant-loop-at : goal.invariant-loop-at
invariant-loop-at l = AreNextsFound l.self l.fn.most l.fn.sid l.initial.found.items l.found.items
