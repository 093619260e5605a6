-- One more entry that leads nowhere is written.
use Rattle.std.proofs.Common.{◌∙◌}
use Rattle.ac_tables.proofs.contiguous.WordsLemmas.{blank-more}
use Rattle.ac_tables.proofs.contiguous.words.push_blank.Goals as goal

pub loop-preserved : goal.loop-preserved
loop-preserved c = c.in_ok-push.ensures.items ∙ blank-more _ _ c.loop.counter c.loop.invariant
