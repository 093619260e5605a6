-- The matches passed over are none of those that are left.
use Rattle.std.proofs.Common.{◌≡◌, length}
use Rattle.ac_automaton.specs.InMemory.Iter.{left_of}
use Rattle.ac_automaton.specs.InMemory.Replace.{text_left_of}
use Rattle.ac_automaton.proofs.in_memory.replace.next_whole.Given as goal

abbrev pub invariant-loop-found : goal.invariant-loop-found
invariant-loop-found g l = text_left_of l.text l.matches ≡ text_left_of l.text l.fn.matches

abbrev pub decreases-loop-found : goal.decreases-loop-found
decreases-loop-found g l = length (left_of l.matches)
