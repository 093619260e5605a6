-- A search that has read nothing stands in the start state, and its buffer holds nothing.
use Rattle.std.proofs.lemmas.Grind.{common_steps}
use Rattle.std.proofs.Common.{arith}
use Rattle.ac_input.specs.declared.search.Anchored.TheVariants.{No}
use Rattle.ac_automaton.proofs.stream.StreamAheadLemmas.{fresh-kept}
use Rattle.ac_automaton.proofs.stream.StreamSearchLemmas.{fresh-right, fresh-view}
use Rattle.ac_automaton.proofs.stream.search.StreamSearch.beginning.Goals as goal

pub invariant_of-result : goal.invariant_of-result
invariant_of-result g c =
    let a = c.args.automaton in
    let start = c.args.start in
    let begins = c.requires.starts in
    let right = fresh-right (g.A.Automaton.built a) (g.A.Automaton.Reaches a No) start c.max_pattern_len.result
    c.zero.result.value c.requires.filled begins c.max_pattern_len.ensures c.zero.ensures
    c.in_ok-buffer.ensures.fresh c.in_ok-buffer.ensures.paid in
    fresh-kept g.A.Automaton a c.max_pattern_len.result c.none.result c.zero.result c.empty.result right c.empty.ensures
    c.zero.ensures c.in_ok-buffer.ensures.fresh c.new-2.ensures
    c.none.ensures.room c.none.ensures.none c.none.ensures.nothing

pub returns-clause-fresh : goal.returns-clause-fresh
returns-clause-fresh g c =
    fresh-view (g.A.Automaton.built c.args.automaton) c.empty.result.items c.zero.result.value c.args.start
    c.max_pattern_len.result c.in_ok-buffer.buffer c.empty.ensures c.zero.ensures
    c.in_ok-buffer.ensures.fresh c.new-2.ensures

pub returns-clause-kept : goal.returns-clause-kept
returns-clause-kept g c = (invariant_of-result g c).0

pub returns-in_err-buffer-clause-fresh : goal.returns-in_err-buffer-clause-fresh
returns-in_err-buffer-clause-fresh g c = grind (arith, common_steps)

pub returns-in_err-buffer-clause-kept : goal.returns-in_err-buffer-clause-kept
returns-in_err-buffer-clause-kept g c = grind (arith, common_steps)

pub returns-in_err-buffer-clause-error : goal.returns-in_err-buffer-clause-error
returns-in_err-buffer-clause-error g c = grind (arith, common_steps)
