-- A hint is a child with a lesser byte, so a walk may begin at it.
use Rattle.ac_noncontiguous.proofs.trie.Trie.from_where.Goals as goal

pub state-requires : goal.state-requires
state-requires c = (c.known_before.ensures _ c.in-Some.is).1
