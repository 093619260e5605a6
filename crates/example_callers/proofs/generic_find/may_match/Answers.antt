use Rattle.std.proofs.Common.{◌≤◌, length, arith}
use Rattle.std.proofs.lemmas.Bool.Decides.{nat_tests}
use Rattle.aho_corasick.proofs.lemmas.FindLemmas.{occurs-long}
use Rattle.example_callers.proofs.generic_find.may_match.Goals as goal

pub returns : goal.returns
returns g c = λ has.
    let long = occurs-long (g.A.Automaton.built c.args.automaton.now).dictionary c.args.text.now has in
    let fits : c.min_pattern_len.result ≤ length c.args.text.now = omega arith in
    grind (arith, nat_tests)
