use Rattle.std.proofs.Common.{◌≡◌}
use Rattle.ac_tables.specs.Contiguous.Table.{len_before}
use Rattle.ac_tables.specs.Contiguous.Build.{ArePlacesOf}
use Rattle.ac_tables.proofs.contiguous.places.lay_out.Given as goal

-- the places so far, and how many words come before the next one
abbrev pub invariant-loop-state : goal.invariant-loop-state
invariant-loop-state l = record {
  made : ArePlacesOf l.nfa l.dense_depth l.classes l.state l.places.items;
  before : l.before ≡ len_before l.nfa l.dense_depth l.classes l.state;
}
