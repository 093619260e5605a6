-- The bytes counted so far, and those of the matches left, are the bytes of all matches.
use Rattle.std.proofs.Common.{arith}
use Rattle.example_callers.proofs.generic_iterate.WalkLemmas.{bytes-step, matches-bytes}
use Rattle.example_callers.proofs.generic_iterate.bytes_matched.Goals as goal

pub overflow_add-bytes : goal.overflow_add-bytes
overflow_add-bytes g c =
    let step = bytes-step _ _ _ c.in-Some.ensures.steps in
    let all = matches-bytes (g.A.Automaton.built c.args.automaton.now) c.args.text.now in
    omega (arith, c.loop-found.invariant.2)

pub returns-clause-within : goal.returns-clause-within
returns-clause-within g c =
    let all = matches-bytes (g.A.Automaton.built c.args.automaton.now) c.args.text.now in
    omega (arith, c.loop-found.invariant.2)
