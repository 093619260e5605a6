use Rattle.std.proofs.Common.{◌<◌}
use Rattle.ac_input.specs.declared.search.MatchKind.TheVariants.{Standard}
use Rattle.ac_input.specs.Best.{IsLeast}
use Rattle.test_plain.specs.Naive.{EndsAfter}
use Rattle.test_plain.proofs.plain.Naive.first_ending_at.Given as goal

abbrev pub invariant-loop-number : goal.invariant-loop-number
invariant-loop-number l =
    IsLeast Standard (λ o. EndsAfter l.self l.end l.before o × (o.pattern < l.number)) l.first
