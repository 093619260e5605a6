-- A DFA is tried for one start kind and few patterns.
use Rattle.std.proofs.Common.{◌≤◌, arith, rules, length}
use Rattle.std.specs.Prelude.{◌≢◌}
use Rattle.ac_input.specs.declared.search.StartKind.TheVariants.{Both}
use Rattle.ac_noncontiguous.specs.Nfa.Reads.{dictionary}
use Rattle.aho_corasick.specs.Served.{most_for_dfa}
use Rattle.aho_corasick.proofs.lemmas.ServedLemmas.{tries-dfa}
use Rattle.aho_corasick.proofs.ahocorasick.builder.AhoCorasickBuilder.try_dfa.Goals as goal

pub returns-clause-tried : goal.returns-clause-tried
returns-clause-tried c =
    let s = c.args.self.now.settings in
    let nfa = c.args.nfa.now in
    let one : s.start_kind ≢ Both = search rules in
    let few : length (dictionary nfa).patterns ≤ most_for_dfa = omega (arith, c.patterns_len.ensures) in
    tries-dfa s nfa c.dfa.result c.build_from_noncontiguous.result c.fitting.result c.dfa.ensures one few
    c.build_from_noncontiguous.ensures.built c.build_from_noncontiguous.ensures.refused c.fitting.ensures
