-- The automaton has no prefilter, as the settings ask for none.
use Rattle.std.proofs.Common.{rules}
use Rattle.ac_input.specs.declared.search.MatchKind.TheVariants.{Standard}
use Rattle.ac_literal.specs.Packed.{bytes_of}
use Rattle.aho_corasick.proofs.lemmas.FrontLemmas.{front-plain}
use Rattle.example_callers.proofs.build.thrifty.Goals as goal

pub returns-clause-plain : goal.returns-clause-plain
returns-clause-plain c =
    front-plain _ (bytes_of c.args.patterns.now) c.args.pairing Standard c.build.result c.build.ensures.served
    (search rules) (search rules) (search rules)
