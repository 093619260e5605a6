-- A child that is known already needs no search among all children.
use Rattle.ac_noncontiguous.proofs.trie.Trie.child_of.Goals as goal

pub returns-in-Some : goal.returns-in-Some
returns-in-Some c = c.known.ensures _ c.in-Some.is
