-- A contiguous NFA is made if it isn't too large.
use Rattle.aho_corasick.proofs.lemmas.ServedLemmas.{tries-contiguous, tries-contiguous_memory}
use Rattle.aho_corasick.proofs.ahocorasick.builder.AhoCorasickBuilder.try_contiguous.Goals as goal

pub returns-clause-tried : goal.returns-clause-tried
returns-clause-tried c =
    tries-contiguous c.args.self.now.settings c.args.nfa.now c.contiguous.result c.build_from_noncontiguous.result
    c.fitting.result c.contiguous.ensures c.build_from_noncontiguous.ensures.made
    c.build_from_noncontiguous.ensures.refused c.fitting.ensures

pub returns-clause-refused : goal.returns-clause-refused
returns-clause-refused c =
    tries-contiguous_memory c.args.self.now.settings c.args.nfa.now c.contiguous.result
    c.build_from_noncontiguous.result c.fitting.result c.contiguous.ensures c.build_from_noncontiguous.ensures.refused
    c.fitting.ensures
