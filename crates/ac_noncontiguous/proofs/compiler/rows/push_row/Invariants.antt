use Rattle.std.proofs.Common.{◌≡◌, ◌+◌, length}
use Rattle.ac_input.specs.Alphabet.{alphabet_len}
use Rattle.ac_noncontiguous.specs.Compiler.Layout.{IsRowAppended}
use Rattle.ac_noncontiguous.proofs.compiler.rows.push_row.Given as goal

abbrev pub invariant-loop-byte : goal.invariant-loop-byte
invariant-loop-byte l =
    IsRowAppended l.classes l.edges l.byte l.fn.rows.items l.rows.items
    × (length l.rows.items ≡ length l.fn.rows.items + alphabet_len l.classes)
