-- The contiguous NFA, within its limit, is taken if no DFA is.
use Rattle.std.proofs.Common.{rules}
use Rattle.ac_noncontiguous.specs.Nfa.Reads.{dictionary}
use Rattle.ac_tables.specs.Contiguous.Builder.{IsMadeFrom}
use Rattle.aho_corasick.specs.Served.{TakesDfa}
use Rattle.aho_corasick.proofs.lemmas.ServedLemmas.{within-contiguous}
use Rattle.aho_corasick.proofs.ahocorasick.builder.AhoCorasickBuilder.take.Goals as goal

pub returns-in-Some-2-clause-taken : goal.returns-in-Some-2-clause-taken
returns-in-Some-2-clause-taken c =
    let s = c.args.self.now.settings in
    let nfa = c.args.nfa in
    let made : IsMadeFrom s nfa c.in-Some-2.made = search rules in
    let none : ¬ TakesDfa s (dictionary nfa) = search rules in
    (made, (none, within-contiguous s nfa c.in-Some-2.made made))
