use Rattle.ac_tables.specs.Contiguous.NearReads.{HasFilledPart}
use Rattle.ac_tables.proofs.contiguous.NFA.fill_over.Given as goal

abbrev pub invariant-loop-class : goal.invariant-loop-class
invariant-loop-class l = HasFilledPart l.self l.bytes l.fn.row l.class l.initial.near l.near
