use Rattle.ac_literal.proofs.prefilter.PackedLemmas.{packed_found, packed_none}
use Rattle.ac_literal.proofs.prefilter.strategy.find_packed.Goals as goal

pub returns-in-Some : goal.returns-in-Some
returns-in-Some c =
    λ m packed. packed_found c.args.haystack.now c.args.span c.requires.within packed c.in-Some.ensures.best

pub returns-in-None : goal.returns-in-None
returns-in-None c =
    λ m packed. packed_none c.args.haystack.now c.args.span c.requires.within packed c.in-None.ensures.best
