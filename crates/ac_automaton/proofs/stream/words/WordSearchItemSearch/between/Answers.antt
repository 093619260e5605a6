-- The bytes between two places are held.
use Rattle.std.proofs.lemmas.Grind.{common_steps}
use Rattle.std.proofs.Common.{drop, ap, ◌∙◌, arith}
use Rattle.ac_automaton.specs.Stream.{read_by}
use Rattle.ac_automaton.proofs.stream.words.held.HeldTextLemmas.{held-between}
use Rattle.ac_automaton.proofs.stream.words.WordSearchItemSearch.between.Goals as goal

pub returns : goal.returns
returns g c =
    let s = c.args.self.now in
    let lies = c.requires.held tt in
    held-between (read_by s) c.held.result.now c.from-from.result s.from c.args.start c.args.end
    (c.from-from.ensures ∙ ap (λ t. t.from) c.self.view_is)
    (c.held.ensures ∙ ap (λ t. drop t.from (read_by t)) c.self.view_is) lies.held lies.order

pub overflow_sub-result : goal.overflow_sub-result
overflow_sub-result g c = grind (arith, common_steps)

pub overflow_sub-result-2 : goal.overflow_sub-result-2
overflow_sub-result-2 g c = grind (arith, common_steps)

pub slice_bounds-result-count : goal.slice_bounds-result-count
slice_bounds-result-count g c = grind (arith, common_steps)

pub slice_bounds-result-start : goal.slice_bounds-result-start
slice_bounds-result-start g c = grind (arith, common_steps)

pub slice_bounds-result-end : goal.slice_bounds-result-end
slice_bounds-result-end g c = grind (arith, common_steps)
