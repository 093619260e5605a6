-- One more pattern ends in one of the states, or nowhere.
use Rattle.ac_noncontiguous.proofs.trie.OwnLemmas.{ends-tried}
use Rattle.ac_noncontiguous.proofs.trie.Trie.note_end.Goals as goal

pub invariant_of-self-clause-placed : goal.invariant_of-self-clause-placed
invariant_of-self-clause-placed c = ends-tried _ _ c.push.ensures.items c.requires.within c.args.self.now.placed
