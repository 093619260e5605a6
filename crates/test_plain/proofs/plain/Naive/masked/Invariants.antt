use Rattle.std.proofs.Common.{◌≡◌, take}
use Rattle.test_plain.specs.Naive.{plain_masked}
use Rattle.test_plain.proofs.plain.Naive.masked.Given as goal

abbrev pub invariant-loop-at : goal.invariant-loop-at
invariant-loop-at l = l.text.items ≡ take l.at (plain_masked l.mask l.self)
