use Rattle.ac_tables.specs.Contiguous.NearReads.{HasPutEdges}
use Rattle.ac_tables.proofs.contiguous.NFA.fill_listed.Given as goal

abbrev pub invariant-loop-at : goal.invariant-loop-at
invariant-loop-at l = HasPutEdges l.self l.bytes l.fn.row l.fn.len l.at l.fn.near l.near
