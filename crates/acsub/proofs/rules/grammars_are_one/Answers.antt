-- Each form has these laws.
use Rattle.acsub.proofs.rules.GrammarLemmas.{bad_none, bad_one, file_one}
use Rattle.acsub.proofs.rules.grammars_are_one.Goals as goal

pub returns : goal.returns
returns c form = (file_one form, bad_one form, bad_none form)
