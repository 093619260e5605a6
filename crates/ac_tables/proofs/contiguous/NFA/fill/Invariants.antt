use Rattle.ac_tables.specs.Contiguous.NearReads.{HasFilledTo}
use Rattle.ac_tables.proofs.contiguous.NFA.fill.Given as goal

abbrev pub invariant-loop-row : goal.invariant-loop-row
invariant-loop-row l = HasFilledTo l.self l.bytes l.row l.initial.near l.near
