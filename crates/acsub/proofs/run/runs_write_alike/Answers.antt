-- A rule file has one list of rules, and the text depends on nothing else that may differ.
use Rattle.acsub.proofs.run.RunLawLemmas as laws
use Rattle.acsub.proofs.run.runs_write_alike.Goals as goal

pub returns : goal.returns
returns c = laws.runs_write_alike
