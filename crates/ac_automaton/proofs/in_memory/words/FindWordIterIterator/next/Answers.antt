-- Each call returns the first word that is left.
use Rattle.ac_automaton.proofs.in_memory.words.WordWalkLemmas.{word-yields, words-progress}
use Rattle.ac_automaton.proofs.in_memory.words.FindWordIterIterator.next.Goals as goal

pub returns-clause-steps : goal.returns-clause-steps
returns-clause-steps g c = word-yields _ _ _ c.next_counted.ensures.filled c.next_counted.ensures.gives

pub returns-clause-goes : goal.returns-clause-goes
returns-clause-goes g c =
    words-progress _ (word-yields _ _ _ c.next_counted.ensures.filled c.next_counted.ensures.gives)
