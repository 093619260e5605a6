use Rattle.ac_input.proofs.lemmas.RuleLemmas.{FirstBadLine-one, FirstBadLine-none}
use Rattle.ac_input.proofs.laws.bad_line_is_one.Goals as goal

pub returns : goal.returns
returns c = (FirstBadLine-one, FirstBadLine-none)
