use Rattle.std.proofs.Common.{◌≡◌, ◌+◌, length}
use Rattle.ac_noncontiguous.specs.Compiler.Layout.{KeepsRows}
use Rattle.ac_noncontiguous.proofs.compiler.rows.push_blank.Given as goal

abbrev pub invariant-loop : goal.invariant-loop
invariant-loop l =
    KeepsRows l.initial.rows.items l.rows.items × (length l.rows.items ≡ length l.initial.rows.items + l.counter)
