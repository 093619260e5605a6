-- The text made so far, and the rest of the text replaced, are the whole result.
use Rattle.std.proofs.Common.{◌≡◌, ◌≤◌, ◌++◌, length, map}
use Rattle.ac_input.specs.Text.{replaced_from}
use Rattle.ac_automaton.specs.InMemory.Iter.{left_of}
use Rattle.ac_automaton.specs.InMemory.Replace.{LieInOrder, matches_in}
use Rattle.ac_automaton.proofs.in_memory.replace.replace_all_bytes.Given as goal

abbrev pub invariant-loop-found : goal.invariant-loop-found
invariant-loop-found g l = record {
  order : l.replaced.items ++ replaced_from l.at l.haystack (map (λ r. r.now) l.replacements) (left_of l.matches)
      ≡ replaced_from 0 l.haystack (map (λ r. r.now) l.replacements)
      (matches_in (g.A.Automaton.built l.automaton) l.haystack);
  lies : LieInOrder (length l.replacements) (length l.haystack) l.at (left_of l.matches);
  within : l.at ≤ length l.haystack;
}

abbrev pub decreases-loop-found : goal.decreases-loop-found
decreases-loop-found g l = length (left_of l.matches)
