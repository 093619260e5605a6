use Rattle.std.proofs.Common.{◌-◌, length}
use Rattle.ac_automaton.specs.Stream.{read_by}
use Rattle.example_callers.specs.Pushed.{IsSame}
use Rattle.example_callers.proofs.pushed_words.gather_words.Given as goal

abbrev pub invariant-loop-next : goal.invariant-loop-next
invariant-loop-next g l = IsSame l.fn.search l.search l.found.items

abbrev pub decreases-loop-next : goal.decreases-loop-next
decreases-loop-next g l = length (read_by l.search) - l.search.last
