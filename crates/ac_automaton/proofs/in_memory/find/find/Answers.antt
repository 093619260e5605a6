-- An occurrence in the span lies in the haystack, since the span does.
use Rattle.std.proofs.lemmas.Grind.{common_steps}
use Rattle.std.proofs.Common.{◌≤◌, length, arith}
use Rattle.ac_automaton.proofs.in_memory.iter.ItemsLemmas.{found-lies}
use Rattle.ac_automaton.proofs.in_memory.find.find.Goals as goal

pub returns-clause-within : goal.returns-clause-within
returns-clause-within g c =
    let inside : c.args.input.now.span.end ≤ length c.args.input.now.haystack =
    rw c.end.ensures.value at c.end.ensures.within in
    found-lies (g.A.Automaton.built c.args.automaton.now) c.args.input.now c.find.result inside c.find.ensures.found

pub returns-in-Some-clause-within : goal.returns-in-Some-clause-within
returns-in-Some-clause-within g c =
    let inside : c.args.input.now.span.end ≤ length c.args.input.now.haystack =
    rw c.end.ensures.value at c.end.ensures.within in
    found-lies (g.A.Automaton.built c.args.automaton.now) c.args.input.now c.search.result inside c.search.ensures.found

pub returns-in_err-start-clause-answer : goal.returns-in_err-start-clause-answer
returns-in_err-start-clause-answer g c = grind (arith, common_steps)

pub returns-in_err-start-clause-within : goal.returns-in_err-start-clause-within
returns-in_err-start-clause-within g c = grind (arith, common_steps)

pub returns-in_err-start-clause-cost : goal.returns-in_err-start-clause-cost
returns-in_err-start-clause-cost g c = grind (arith, common_steps)

pub returns-then-start-end-clause-answer : goal.returns-then-start-end-clause-answer
returns-then-start-end-clause-answer g c = grind (arith, common_steps)

pub returns-then-start-end-clause-cost : goal.returns-then-start-end-clause-cost
returns-then-start-end-clause-cost g c = grind (arith, common_steps)

pub returns-clause-answer : goal.returns-clause-answer
returns-clause-answer g c = grind (arith, common_steps)

pub returns-clause-cost : goal.returns-clause-cost
returns-clause-cost g c = grind (arith, common_steps)
