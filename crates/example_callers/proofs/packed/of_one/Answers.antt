-- The searcher has the pattern that was added to its builder.
use Rattle.std.proofs.Common.{rules}
use Rattle.example_callers.proofs.packed.PackedLemmas.{of-one}
use Rattle.example_callers.proofs.packed.of_one.Goals as goal

pub returns : goal.returns
returns c = let one = of-one c.args.pattern.now c.requires in search (rules, one)
