-- No place before the last block may open, and in it none before the first mark whose fingerprint is in the set.
use Rattle.std.proofs.Common.{arith}
use Rattle.ac_literal.proofs.openings.OpeningLemmas.{marked-passed}
use Rattle.ac_literal.proofs.openings.fronts.Fronts.pass_last.Goals as goal

pub returns-clause-passed : goal.returns-clause-passed
returns-clause-passed c =
    let printed = c.first_printed.ensures in
    let short = c.requires.short in
    marked-passed c.marks_at-marks.result (λ place early. c.requires.passed place (omega (arith, early, short))) c.marks_at-marks.ensures.set
    printed.within printed.passed
