use Rattle.std.proofs.Common.{map}
use Rattle.ac_literal.specs.declared.packed.api.MatchKind.TheVariants.{LeftmostFirst}
use Rattle.example_callers.proofs.packed.PackedLemmas.{packed-first}
use Rattle.example_callers.proofs.packed.first_match.Goals as goal

pub returns : goal.returns
returns c =
    packed-first LeftmostFirst (map (λ pattern. pattern.now) c.args.patterns.now) c.args.text.now _ _ _
    c.in_ok-new.ensures.value c.unwrap-searcher.ensures c.find.ensures.best
