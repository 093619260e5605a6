use Rattle.std.proofs.Common.{◌≡◌, ◌-◌, ◌++◌, length, drop}
use Rattle.ac_tables.specs.Contiguous.Words.{packed, classes_of}
use Rattle.ac_tables.proofs.contiguous.words.push_classes.Given as goal

-- the classes that are written, and those that are left
abbrev pub invariant-loop-at : goal.invariant-loop-at
invariant-loop-at l =
    l.words.items ++ packed (drop l.at (classes_of l.edges)) ≡ l.initial.words.items ++ packed (classes_of l.edges)

abbrev pub decreases-loop-at : goal.decreases-loop-at
decreases-loop-at l = length l.edges - l.at
