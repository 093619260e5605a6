use Rattle.std.proofs.Common.{length}
use Rattle.example_callers.proofs.pushed_words.push_words.Given as goal
use Rattle.example_callers.proofs.pushed.PushedLemmas.{Pushing}

abbrev pub invariant-loop-rest : goal.invariant-loop-rest
invariant-loop-rest g l = Pushing l.fn.search l.search l.piece l.rest l.found.items

abbrev pub decreases-loop-rest : goal.decreases-loop-rest
decreases-loop-rest g l = length l.rest
