use Rattle.std.proofs.Common.{None, refl}
use Rattle.ac_input.proofs.lemmas.TextLemmas.{replaced-identity}
use Rattle.ac_input.proofs.laws.replacing_by_itself_changes_nothing.Goals as goal

pub returns : goal.returns
returns c = λ kind s picks plain walk. replaced-identity kind s 0 None s.patterns picks plain (λ n. refl) walk
