-- What was replaced is held.
use Rattle.ac_c.proofs.replace.made.Goals as goal

pub returns : goal.returns
returns c = (c.replaced_by.result, c.replaced_by.ensures, c.hold.ensures)
