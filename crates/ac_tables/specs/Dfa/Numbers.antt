-- The number of a state in a table.
use Rattle.std.specs.Prelude.{ℕ}
use Rattle.ac_input.specs.declared.search.Anchored.{Anchored}
use Rattle.ac_input.specs.Input.{is_anchored}
use Rattle.ac_tables.specs.declared.dfa.numbers.Numbers.{Numbers}
use Rattle.ac_tables.specs.Dfa.Table.{dfa_number_of}

-- where the row of a state begins for searches of this anchoring
abbrev pub number_at : Numbers → Anchored → ℕ → ℕ
number_at n anchored sid = dfa_number_of n.kind n.start n.stride (is_anchored anchored) sid
