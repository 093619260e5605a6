use Rattle.std.proofs.Common.{◌≡◌, map, take}
use Rattle.ac_literal.specs.Packed.{bytes_of}
use Rattle.aho_corasick.proofs.ahocorasick.builder.slices_of.Given as goal

abbrev pub invariant-loop-pattern : goal.invariant-loop-pattern
invariant-loop-pattern g l = bytes_of l.slices.items ≡ map g.P.AsSlice.items (take l.pattern-index l.patterns)
