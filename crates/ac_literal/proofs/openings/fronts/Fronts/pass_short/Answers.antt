-- What may open in the bytes may open in their copy, and there no place before the first mark whose fingerprint is in the set does.
use Rattle.std.proofs.Common.{arith}
use Rattle.ac_literal.proofs.openings.OpeningLemmas.{copied-opens, marked-passed}
use Rattle.ac_literal.proofs.openings.fronts.Fronts.pass_short.Goals as goal

pub returns-clause-passed : goal.returns-clause-passed
returns-clause-passed c place within opens =
    let f = c.args.self.now in
    let printed = c.first_printed.ensures in
    let result = c.min.ensures in
    let end = c.requires.end in
    marked-passed c.marks_at-marks.result (λ k early. absurd (omega (arith, early))) c.marks_at-marks.ensures.set
    printed.within printed.passed place (omega (arith, result, within))
    (copied-opens f c.args.bytes.now c.block_of-block.result f.near c.block_of-block.ensures place
    (omega (arith, result, within, end)) opens)
