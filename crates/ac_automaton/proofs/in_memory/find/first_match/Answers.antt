-- A pattern that matches is no longer than what was read.
use Rattle.std.proofs.Common.{arith}
use Rattle.std.proofs.lemmas.Grind.{common_steps}
use Rattle.ac_automaton.proofs.in_memory.find.ToldLemmas.{told-first_fits}
use Rattle.ac_automaton.proofs.in_memory.find.first_match.Goals as goal

pub overflow_sub-start : goal.overflow_sub-start
overflow_sub-start g c =
    let reads = c.requires.reads in
    let tells = g.met.A.Automaton.tells c.args.automaton.now _ reads.0 c.args.sid reads.1 in
    let fits = told-first_fits _ reads.0 _ _ tells c.match_pattern-pattern.ensures.value in
    let within = reads.2 in
    let len = c.pattern_len.ensures in
    omega arith

pub match_pattern-pattern-requires-clause-valid : goal.match_pattern-pattern-requires-clause-valid
match_pattern-pattern-requires-clause-valid g c = grind (arith, common_steps)
