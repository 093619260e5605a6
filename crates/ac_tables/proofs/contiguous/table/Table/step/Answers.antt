use Rattle.std.proofs.Common.{◌∙◌}
use Rattle.ac_tables.proofs.contiguous.StateLemmas.{step-small}
use Rattle.ac_tables.proofs.contiguous.table.Table.step.Goals as goal

pub must-requires : goal.must-requires
must-requires c =
    step-small c.args.self.now c.args.sid c.args.byte c.next_word.result c.requires c.ranges.byte.fits
    c.next_word.ensures

pub returns : goal.returns
returns c = λ s h. c.must.ensures ∙ c.next_word.ensures s h
