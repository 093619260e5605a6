use Rattle.std.proofs.Common.{◌≡◌, ◌≤◌}
use Rattle.ac_input.specs.Alphabet.{count_below}
use Rattle.ac_input.proofs.alphabet.byte_set.ByteSet.len.Given as goal

abbrev pub invariant-loop-i : goal.invariant-loop-i
invariant-loop-i l = record { count : l.len ≡ count_below l.self-inside.members l.i; fits : l.len ≤ l.i }
