-- The buffer begins with the words given so far, and the walk has the rest.
use Rattle.std.proofs.Common.{◌≡◌, ◌≤◌, length, map, take, drop}
use Rattle.ac_automaton.specs.InMemory.Words.{words_left}
use Rattle.ac_c.specs.Found.{shown}
use Rattle.ac_c.specs.Words.{PaysWords, from_after}
use Rattle.ac_c.proofs.words.fill.Given as goal

abbrev pub invariant-loop-at : goal.invariant-loop-at
invariant-loop-at l = record {
  rest : words_left l.words ≡ drop l.at (words_left l.fn.words);
  enough : l.at ≤ length (words_left l.fn.words);
  given : take l.at l.out ≡ map shown (take l.at (words_left l.fn.words));
  same : l.words ≡ record l.fn.words {
    at = from_after l.fn.words.at l.out l.at;
    read = l.words.read;
    looked = l.words.looked;
    scanned = l.words.scanned;
    moved = l.words.moved;
  };
  within : l.words.at ≤ length l.words.haystack;
  cost : PaysWords l.fn.words l.words.at l.at l.fn.steps l.steps;
}
