-- How far the chain of calls has come.
use Rattle.std.proofs.Common.{◌≤◌, length}
use Rattle.ac_automaton.specs.InMemory.Iter.{left_of}
use Rattle.ac_automaton.specs.InMemory.Replace.{LieInOrder, IsForMatches, calls_of, matches_in}
use Rattle.ac_automaton.proofs.in_memory.replace.ReplacerLemmas.{ComesTo}
use Rattle.ac_automaton.proofs.in_memory.replace.replace_all_with_bytes.Given as goal

abbrev pub invariant-loop-found : goal.invariant-loop-found
invariant-loop-found g l = record {
  callable : IsForMatches g.F.FnMut (length (g.A.Automaton.built l.automaton).dictionary.patterns) l.replace_with;
  lies : LieInOrder (length (g.A.Automaton.built l.automaton).dictionary.patterns) (length l.haystack) l.at
      (left_of l.matches);
  within : l.at ≤ length l.haystack;
  comes : ComesTo (calls_of (λ v. v.items) g.F.FnMut) l.haystack
      (matches_in (g.A.Automaton.built l.automaton) l.haystack) l.fn.replace_with l.fn.dst.items l.at
      (left_of l.matches)
      l.replace_with l.dst.items;
}

abbrev pub decreases-loop-found : goal.decreases-loop-found
decreases-loop-found g l = length (left_of l.matches)
