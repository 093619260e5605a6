-- A DFA built with the default settings finds the patterns byte for byte.
use Rattle.std.proofs.lemmas.Result.{IfOk-weaker}
use Rattle.example_callers.proofs.automata.TableLemmas.{first-dfa}
use Rattle.example_callers.proofs.automata.dfa_of_bytes.Goals as goal

pub returns : goal.returns
returns c = IfOk-weaker c.new.result _ _ (first-dfa c.args.patterns.now) c.new.ensures.built
