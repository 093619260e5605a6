-- It costs what the masking that was asked for costs.
use Rattle.std.proofs.Common.{subst, sym}
use Rattle.aho_corasick.specs.AhoCorasick.{as_built}
use Rattle.acsub.specs.Masked.{CostsMasking}
use Rattle.acsub.proofs.mask.mask_stream.Goals as goal

pub returns-then-mask-clause-cost : goal.returns-then-mask-clause-cost
returns-then-mask-clause-cost g c =
    let masked = c.try_mask_words_stream_counted in
    subst (λ word. CostsMasking word (as_built c.args.automaton.now) c.args.reader.now masked.new.reader c.args.steps.now
    masked.new.steps masked.result) (sym c.if-mask.true) masked.ensures.cost

pub returns-else-mask-clause-cost : goal.returns-else-mask-clause-cost
returns-else-mask-clause-cost g c =
    let masked = c.try_mask_stream_counted in
    subst (λ word. CostsMasking word (as_built c.args.automaton.now) c.args.reader.now masked.new.reader c.args.steps.now
    masked.new.steps masked.result) (sym c.if-mask.false) masked.ensures.cost
