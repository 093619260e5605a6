use Rattle.std.proofs.Common.{subst}
use Rattle.ac_input.specs.Input.{Asked}
use Rattle.ac_automaton.specs.Automaton.{IsFound}
use Rattle.aho_corasick.specs.AhoCorasick.{as_built}
use Rattle.aho_corasick.proofs.lemmas.FindLemmas.{found-first}
use Rattle.example_callers.proofs.find.first_match.Goals as goal

pub returns : goal.returns
returns c =
    let b = as_built c.args.ac.now in
    found-first b c.args.text.now _ (subst (λ asked. IsFound b asked c.find.result) c.new.ensures c.find.ensures.found)
