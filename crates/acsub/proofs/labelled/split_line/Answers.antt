-- The first line ends with the first LF, or with the text.
use Rattle.std.proofs.Common.{arith}
use Rattle.acsub.proofs.labelled.LabelledLemmas.{line-to_lf, line-whole}
use Rattle.acsub.proofs.labelled.split_line.Goals as goal

pub returns-in-Some-clause-line : goal.returns-in-Some-clause-line
returns-in-Some-clause-line c =
    line-to_lf c.args.text.now c.split_at.result.0.now c.split_at.result.1.now c.in-Some.end c.in-Some.ensures
    c.split_at.ensures.by_index.0 c.split_at.ensures.front (omega (arith, c.split_at.ensures.front_len))

pub returns-in-None-clause-line : goal.returns-in-None-clause-line
returns-in-None-clause-line c = line-whole c.args.text.now c.requires c.in-None.ensures
