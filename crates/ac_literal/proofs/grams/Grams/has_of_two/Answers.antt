-- No window stands in the places before the one after two that aren't marked.
use Rattle.std.proofs.Common.{arith}
use Rattle.std.proofs.lemmas.Bool.{or_parts}
use Rattle.ac_literal.proofs.grams.GramLemmas.{none-more}
use Rattle.ac_literal.proofs.grams.Grams.has_of_two.Goals as goal

pub returns : goal.returns
returns c neither none first within =
    let g = c.args.self.now in
    let text = c.args.bytes.now in
    let both = or_parts c.has.result c.has-2.result neither in
    none-more g text (c.has-2.ensures both.1) (none-more g text (c.has.ensures both.0) none) first
    (omega (arith, within))
