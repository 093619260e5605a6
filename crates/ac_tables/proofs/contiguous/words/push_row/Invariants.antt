use Rattle.std.proofs.Common.{◌≡◌, ◌++◌, map, drop}
use Rattle.std.specs.List.{range_with_len}
use Rattle.ac_tables.specs.Contiguous.Words.{next_by}
use Rattle.ac_tables.proofs.contiguous.words.push_row.Given as goal

abbrev pub invariant-loop-k : goal.invariant-loop-k
invariant-loop-k l =
    l.words.items ≡ l.fn.words.items ++ map (next_by (drop l.k l.edges)) (range_with_len 0 l.alphabet_len)
