-- A search that has read nothing stands in the start state.
use Rattle.std.proofs.lemmas.Grind.{common_steps}
use Rattle.std.proofs.Common.{arith}
use Rattle.ac_automaton.proofs.stream.words.WordKeptLemmas.{fresh-kept}
use Rattle.ac_automaton.proofs.stream.words.WordSearch.beginning.Goals as goal

pub invariant_of-result : goal.invariant_of-result
invariant_of-result g c =
    let kept = fresh-kept g.A.Automaton c.args.automaton c.args.kind c.args.start c.max_pattern_len.result c.requires.can.1
    c.requires.can.2 c.requires.starts c.max_pattern_len.ensures c.in_ok-text.ensures.unread c.new-2.ensures in
    (kept.1, kept.2)

pub returns-clause-kept : goal.returns-clause-kept
returns-clause-kept g c = (invariant_of-result g c).0

pub returns-in_err-text-clause-fresh : goal.returns-in_err-text-clause-fresh
returns-in_err-text-clause-fresh g c = grind (arith, common_steps)

pub returns-in_err-text-clause-kept : goal.returns-in_err-text-clause-kept
returns-in_err-text-clause-kept g c = grind (arith, common_steps)

pub returns-in_err-text-clause-error : goal.returns-in_err-text-clause-error
returns-in_err-text-clause-error g c = grind (arith, common_steps)

pub returns-clause-fresh : goal.returns-clause-fresh
returns-clause-fresh g c = grind (arith, common_steps)
