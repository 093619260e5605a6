use Rattle.std.proofs.Common.{◌-◌}
use Rattle.ac_tables.specs.Dfa.Lists.{AreFirstLists}
use Rattle.ac_tables.proofs.dfa.lists.Lists.of.Given as goal

abbrev pub invariant-loop-sid : goal.invariant-loop-sid
invariant-loop-sid l = AreFirstLists l.nfa (l.sid - 2) l.lists
