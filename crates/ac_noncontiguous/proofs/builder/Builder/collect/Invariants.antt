-- The patterns so far are collected.
use Rattle.std.proofs.Common.{◌≡◌}
use Rattle.ac_input.specs.Limits.{first_patterns}
use Rattle.ac_noncontiguous.specs.Builder.{dictionary_by}
use Rattle.ac_noncontiguous.proofs.builder.Builder.collect.Given as goal

abbrev pub invariant-loop-pattern : goal.invariant-loop-pattern
invariant-loop-pattern l = l.builder ≡ first_patterns (dictionary_by l.fn.self l.patterns) l.pattern-index
