-- What a walk costs from one place to another.
use Rattle.std.specs.Prelude.{◌≡◌, ◌+◌, Bool, false, true}
use Rattle.ac_input.specs.declared.steps.Steps.{Steps}
use Rattle.ac_automaton.specs.InMemory.Iter.{CountsWalk, IsOnItsWay, IsWithinBudget, IsWithinBudgetAhead, Walk, WalkCounts}

-- A walk is within its budget. That of a walk that reads ahead has the bytes that may have been read ahead.
abbrev pub IsPaidWalk : Bool → Walk → Type 0
IsPaidWalk false w = IsWithinBudget w
IsPaidWalk true w = IsWithinBudgetAhead w

-- a walk is on its way and within its budget, and has counted each byte that it passed
abbrev pub IsAccounted : Bool → Walk → Type 0
IsAccounted ahead w = IsOnItsWay w × IsPaidWalk ahead w × CountsWalk w

-- A walk, which may read ahead or not, went on to where the second one stands, and counted exactly what it did. So far
-- it is within the budget of such a walk.
pub record WalksTo (ahead : Bool) (w v : Walk) (before after : Steps) : Type 0 where
  pub built : v.built ≡ w.built
  pub asked : v.asked ≡ w.asked
  pub counts : WalkCounts w v before after
  pub accounted : IsAccounted ahead v

-- a walk went on to some place, and counted what it did
abbrev pub WalksOn : Bool → Walk → Steps → Steps → Type 0
WalksOn ahead w before after = (v : Walk) × WalksTo ahead w v before after

-- a walk went on to its end, and counted what it did
abbrev pub WalksToEnd : Bool → Walk → Steps → Steps → Type 0
WalksToEnd ahead w before after = (v : Walk) × WalksTo ahead w v before after × (v.at ≡ w.asked.span.end + 1)
