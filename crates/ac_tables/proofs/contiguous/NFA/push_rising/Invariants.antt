use Rattle.ac_tables.specs.Contiguous.NearReads.{ArePlacesNear}
use Rattle.ac_tables.proofs.contiguous.NFA.push_rising.Given as goal

abbrev pub invariant-loop-place : goal.invariant-loop-place
invariant-loop-place l = ArePlacesNear l.self l.most l.places.items
