-- The buffer begins with the matches given so far, and the walk has the rest.
use Rattle.std.proofs.Common.{◌≡◌, ◌+◌, ◌≤◌, length, map, take, drop}
use Rattle.ac_automaton.specs.InMemory.Iter.{left_of}
use Rattle.ac_c.specs.Found.{shown}
use Rattle.ac_c.specs.Walking.{WalksTo}
use Rattle.ac_c.proofs.walk.fill.Given as goal

abbrev pub invariant-loop-at : goal.invariant-loop-at
invariant-loop-at g l = let walk = g.W.Walking.walk in record {
  rest : left_of (walk l.matches) ≡ drop l.at (left_of (walk l.fn.matches));
  counted : (walk l.matches).given ≡ (walk l.fn.matches).given + l.at;
  enough : l.at ≤ length (left_of (walk l.fn.matches));
  given : take l.at l.out ≡ map shown (take l.at (left_of (walk l.fn.matches)));
  cost : WalksTo g.W.Walking.ahead (walk l.fn.matches) (walk l.matches) l.fn.steps l.steps;
}
