use Rattle.std.proofs.Common.{◌≡◌, ◌+◌, ◌<◌, ℕ, slice_index}
use Rattle.ac_input.specs.Alphabet.{class}
use Rattle.ac_noncontiguous.specs.Compiler.Layout.{or_failure}
use Rattle.ac_noncontiguous.proofs.compiler.rows.with_failures.Given as goal

abbrev pub invariant-loop-byte : goal.invariant-loop-byte
invariant-loop-byte l =
    (b : ℕ) → b < l.byte → slice_index l.leads b
    ≡ or_failure (slice_index l.edges b) (slice_index l.rows (l.fn.failure + class l.classes b))
