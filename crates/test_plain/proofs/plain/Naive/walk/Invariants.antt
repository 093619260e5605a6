use Rattle.std.proofs.Common.{◌≡◌, ◌+◌, ◌≤◌, ◌++◌, length, None}
use Rattle.ac_input.specs.Best.{asked_kind}
use Rattle.test_plain.specs.Naive.{plain_walk}
use Rattle.test_plain.proofs.plain.Naive.walk.Given as goal

abbrev pub invariant-loop-found : goal.invariant-loop-found
invariant-loop-found l = record {
  within : l.at ≤ l.self.search.end + 1;
  rest : l.picks.items ++ plain_walk l.self (asked_kind l.kind l.earliest) l.at l.last
      ≡ plain_walk l.self (asked_kind l.kind l.earliest) l.self.search.start None;
}

abbrev pub decreases-loop-found : goal.decreases-loop-found
decreases-loop-found l = length (plain_walk l.self (asked_kind l.kind l.earliest) l.at l.last)
