use Rattle.std.proofs.Common.{◌≡◌, [], ◌++◌, map}
use Rattle.std.specs.List.{range_with_len}
use Rattle.ac_tables.specs.Contiguous.Words.{next_by}
use Rattle.ac_tables.proofs.contiguous.words.push_blank.Given as goal

abbrev pub invariant-loop : goal.invariant-loop
invariant-loop l = l.words.items ≡ l.initial.words.items ++ map (next_by []) (range_with_len 0 l.counter)
