use Rattle.std.proofs.Common.{List, ℕ, ap, ◌∙◌, Bor}
use Rattle.std.proofs.lemmas.Option.{slice_get-get_or, slice_get-map}
use Rattle.std.specs.Prelude.{option_map}
use Rattle.ac_noncontiguous.proofs.nfa.pattern_lens.PatternLens.of.Goals as goal

pub add-requires : goal.add-requires
add-requires c =
    c.requires c.loop-pattern.pattern-index _
    (slice_get-map (λ (p : Bor (List ℕ)). p.now) c.args.patterns.now c.loop-pattern.pattern-index
    ∙ ap (option_map (λ (p : Bor (List ℕ)). p.now))
    (slice_get-get_or c.args.patterns.now c.loop-pattern.pattern-index _ c.loop-pattern-test.true))
