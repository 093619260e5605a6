-- The text made so far, and the rest of the text replaced, are the whole result.
use Rattle.std.proofs.Common.{◌≡◌, ◌≤◌, ◌++◌, length, map}
use Rattle.ac_input.specs.Text.{replaced_from}
use Rattle.ac_automaton.specs.InMemory.Replace.{LieInOrder}
use Rattle.ac_automaton.specs.InMemory.Words.{fresh_words, words_left}
use Rattle.ac_automaton.proofs.in_memory.replace.replace_words.Given as goal

abbrev pub invariant-loop-found : goal.invariant-loop-found
invariant-loop-found g l = record {
  order : l.replaced.items ++ replaced_from l.at l.haystack (map (λ r. r.now) l.replacements) (words_left l.words)
      ≡ replaced_from 0 l.haystack (map (λ r. r.now) l.replacements)
      (words_left (fresh_words (g.A.Automaton.built l.automaton) l.fn.kind l.haystack));
  lies : LieInOrder (length l.replacements) (length l.haystack) l.at (words_left l.words);
  within : l.at ≤ length l.haystack;
}

abbrev pub decreases-loop-found : goal.decreases-loop-found
decreases-loop-found g l = length (words_left l.words)
