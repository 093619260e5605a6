-- How far the chain of calls has come.
use Rattle.std.proofs.Common.{length}
use Rattle.std.specs.Str.{IsCharBoundary}
use Rattle.std.specs.String.{string_bytes}
use Rattle.ac_automaton.specs.InMemory.Replace.{LieInOrder, IsForMatches, calls_of, text_left_of, text_matches_in}
use Rattle.ac_automaton.proofs.in_memory.replace.ReplacerLemmas.{ComesTo}
use Rattle.ac_automaton.proofs.in_memory.replace.replace_all_with.Given as goal

abbrev pub invariant-loop-found : goal.invariant-loop-found
invariant-loop-found g l = record {
  callable : IsForMatches g.F.FnMut (length (g.A.Automaton.built l.automaton).dictionary.patterns) l.replace_with;
  lies : LieInOrder (length (g.A.Automaton.built l.automaton).dictionary.patterns) (length l.haystack) l.at
      (text_left_of l.haystack l.matches);
  boundary : IsCharBoundary l.haystack l.at;
  comes : ComesTo (calls_of string_bytes g.F.FnMut) l.haystack
      (text_matches_in (g.A.Automaton.built l.automaton) l.haystack) l.fn.replace_with (string_bytes l.fn.dst) l.at
      (text_left_of l.haystack l.matches) l.replace_with (string_bytes l.dst);
}

abbrev pub decreases-loop-found : goal.decreases-loop-found
decreases-loop-found g l = length (text_left_of l.haystack l.matches)
