use Rattle.std.proofs.Common.{◌≤◌, length, arith}
use Rattle.std.proofs.lemmas.Bool.Decides.{nat_tests}
use Rattle.aho_corasick.specs.AhoCorasick.{as_built}
use Rattle.aho_corasick.proofs.lemmas.FindLemmas.{occurs-long}
use Rattle.example_callers.proofs.build.may_match.Goals as goal

pub returns : goal.returns
returns c = λ has.
    let long = occurs-long (as_built c.args.ac.now).dictionary c.args.text.now has in
    let fits : c.min_pattern_len.result ≤ length c.args.text.now = omega arith in
    grind (arith, nat_tests)
