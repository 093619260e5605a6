use Rattle.std.proofs.Common.{◌≡◌, ◌++◌, take}
use Rattle.std.specs.List.{filter}
use Rattle.ac_noncontiguous.specs.Links.{by_state}
use Rattle.ac_noncontiguous.specs.Compiler.Numbering.{is_chosen}
use Rattle.ac_noncontiguous.proofs.compiler.numbering.push_chosen.Given as goal

abbrev pub invariant-loop-id : goal.invariant-loop-id
invariant-loop-id l =
    l.at.items ≡ l.initial.at.items ++ filter (is_chosen (by_state l.links.ranges) l.matching) (take l.id-index l.states)
