use Rattle.std.proofs.Common.{◌≡◌, map, take}
use Rattle.ac_noncontiguous.proofs.nfa.pattern_lens.PatternLens.of.Given as goal

abbrev pub invariant-loop-pattern : goal.invariant-loop-pattern
invariant-loop-pattern l = l.lens ≡ map (λ p. p.now) (take l.pattern-index l.patterns)
