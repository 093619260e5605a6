-- The text made so far, and the rest of the text replaced, are the whole result.
use Rattle.std.proofs.Common.{◌≡◌, ◌++◌, length, map}
use Rattle.std.specs.Str.{IsCharBoundary}
use Rattle.std.specs.String.{string_bytes}
use Rattle.ac_input.specs.Text.{replaced_from}
use Rattle.ac_automaton.specs.InMemory.Replace.{LieInOrder, text_left_of, text_matches_in}
use Rattle.ac_automaton.proofs.in_memory.replace.replace_all.Given as goal

abbrev pub invariant-loop-found : goal.invariant-loop-found
invariant-loop-found g l = record {
  order : string_bytes l.replaced
      ++ replaced_from l.at l.haystack (map (λ r. r.now) l.replacements) (text_left_of l.haystack l.matches)
      ≡ replaced_from 0 l.haystack (map (λ r. r.now) l.replacements)
      (text_matches_in (g.A.Automaton.built l.automaton) l.haystack);
  lies : LieInOrder (length l.replacements) (length l.haystack) l.at (text_left_of l.haystack l.matches);
  boundary : IsCharBoundary l.haystack l.at;
}

abbrev pub decreases-loop-found : goal.decreases-loop-found
decreases-loop-found g l = length (text_left_of l.haystack l.matches)
