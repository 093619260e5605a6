use Rattle.std.proofs.Common.{◌≡◌, ◌++◌, take}
use Rattle.ac_tables.proofs.contiguous.words.push_numbers.Given as goal

abbrev pub invariant-loop-pattern : goal.invariant-loop-pattern
invariant-loop-pattern l = l.words.items ≡ l.initial.words.items ++ take l.pattern-index l.matches
