use Rattle.std.proofs.Common.{false}
use Rattle.ac_automaton.proofs.lemmas.WalkLemmas.{occurs-bound}
use Rattle.example_callers.proofs.generic_find.most_bytes.Goals as goal

pub returns : goal.returns
returns g c =
    λ text o occurs. rw c.max_pattern_len.ensures
    (occurs-bound (g.A.Automaton.built c.args.automaton.now).dictionary occurs)
