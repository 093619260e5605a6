-- No pattern is shorter than the shortest.
use Rattle.std.proofs.Common.{◌≤◌, List, ℕ, [], length, get_or, sym, subst, arith}
use Rattle.ac_input.specs.Work.{shortest}
use Rattle.ac_literal.proofs.packed.PatternLemmas.{shortest-least}
use Rattle.ac_noncontiguous.specs.Nfa.Reads.{built_as}
use Rattle.example_callers.proofs.nfa.len_past_shortest.Goals as goal

pub overflow_sub-result : goal.overflow_sub-result
overflow_sub-result c =
    let lens = c.pattern_lens-lens.ensures in
    let least = shortest-least (built_as c.args.nfa.now).dictionary.patterns c.args.pattern c.requires in
    let same = subst (λ ps. shortest ps ≤ length (get_or ps c.args.pattern [])) (sym lens) least in
    omega (arith, same)
