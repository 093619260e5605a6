-- The length so far, and that of the rest with its matches replaced, are the length of the text.
use Rattle.std.proofs.Common.{◌≡◌, ◌+◌, ◌≤◌, length, map}
use Rattle.ac_input.specs.Text.{replaced_from}
use Rattle.ac_automaton.specs.InMemory.Iter.{left_of}
use Rattle.ac_automaton.specs.InMemory.Replace.{LieInOrder}
use Rattle.ac_c.specs.Replace.{text_with}
use Rattle.ac_c.specs.Walking.{WalksTo}
use Rattle.ac_c.proofs.replace.text_len.Given as goal

abbrev pub invariant-loop-found : goal.invariant-loop-found
invariant-loop-found g l = let walk = g.W.Walking.walk in record {
  sum : l.len + length (replaced_from l.at l.haystack (map (λ r. r.now) l.replacements) (left_of (walk l.matches)))
      ≡ length (text_with l.haystack l.replacements (left_of (walk l.fn.matches)));
  lies : LieInOrder (length l.replacements) (length l.haystack) l.at (left_of (walk l.matches));
  within : l.at ≤ length l.haystack;
  cost : WalksTo g.W.Walking.ahead (walk l.fn.matches) (walk l.matches) l.fn.steps l.steps;
}

abbrev pub decreases-loop-found : goal.decreases-loop-found
decreases-loop-found g l = length (left_of (g.W.Walking.walk l.matches))
