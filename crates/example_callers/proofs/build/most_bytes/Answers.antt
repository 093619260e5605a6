use Rattle.std.proofs.Common.{false}
use Rattle.ac_automaton.proofs.lemmas.WalkLemmas.{occurs-bound}
use Rattle.aho_corasick.specs.AhoCorasick.{as_built}
use Rattle.example_callers.proofs.build.most_bytes.Goals as goal

pub returns : goal.returns
returns c = λ text o occurs. rw c.max_pattern_len.ensures (occurs-bound (as_built c.args.ac.now).dictionary occurs)
