-- The text has one first line.
use Rattle.acsub.proofs.rules.FirstLineLemmas.{first-has}
use Rattle.acsub.proofs.rules.text.first_line_has.Goals as goal

pub returns : goal.returns
returns c =
    let same = first-has c.first_written.ensures in
    let has = c.has_byte.ensures in (λ yes. same.1 (has.0 yes), λ first. has.1 (same.0 first))
