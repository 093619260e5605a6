use Rattle.ac_input.proofs.lemmas.ClassLemmas.{classes-alike}
use Rattle.ac_input.proofs.state_laws.each_leads_alike.Goals as goal

pub returns : goal.returns
returns c = classes-alike
