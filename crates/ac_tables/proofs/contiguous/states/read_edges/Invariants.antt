use Rattle.std.proofs.Common.{length, slice_index}
use Rattle.ac_noncontiguous.specs.Nfa.ReadCalls.{edges_in}
use Rattle.ac_tables.proofs.contiguous.states.read_edges.Given as goal
use Rattle.ac_tables.proofs.contiguous.BuildLemmas.{AreReadTo}

-- the transitions read so far, and those that are left
abbrev pub invariant-loop-byte : goal.invariant-loop-byte
invariant-loop-byte l =
    AreReadTo l.classes (slice_index l.places) (edges_in l.nfa l.fn.sid) (length l.edges.items) l.edges.items
    l.byte-iterator
