-- Both states came from calls over this input.
use Rattle.aho_corasick.specs.AhoCorasick.{CameFromCalls}
use Rattle.test_searches.proofs.front.turns_hold.Given as goal

abbrev pub invariant-loop-at : goal.invariant-loop-at
invariant-loop-at g l = CameFromCalls l.ac l.asked l.state × CameFromCalls l.ac l.asked l.tried
