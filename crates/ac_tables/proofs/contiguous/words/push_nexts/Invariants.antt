use Rattle.std.proofs.Common.{◌≡◌, ◌++◌, take}
use Rattle.ac_tables.specs.Contiguous.Words.{nexts_of}
use Rattle.ac_tables.proofs.contiguous.words.push_nexts.Given as goal

abbrev pub invariant-loop-edge : goal.invariant-loop-edge
invariant-loop-edge l = l.words.items ≡ l.initial.words.items ++ nexts_of (take l.edge-index l.edges)
