-- The next match is the one met, or else the next of the search.
use Rattle.std.proofs.Common.{sym, ap, subst, ◌∙◌}
use Rattle.ac_automaton.specs.Stream.{CanBeCounted, read_by}
use Rattle.ac_automaton.specs.Stream.Replacer.{LooksForMatch}
use Rattle.ac_automaton.proofs.stream.StreamReplacerLemmas.{replacer_progress_of, look-on, look-right, none-met}
use Rattle.ac_automaton.proofs.stream.replacer.StreamReplacer.look.Goals as goal
use Rattle.ac_automaton.proofs.stream.StreamCountLemmas.{StreamCounts-none}

pub invariant_of-self : goal.invariant_of-self
invariant_of-self g c =
    let none = none-met c.self.inside.met c.if-is_none.ensures in
    look-right (replacer_progress_of c.self.inside) c.next_counted-self-inside.new.self
    c.next_counted-self-inside.result c.self.invariant none (ap (λ r. r.over) c.self.view_is ∙ c.requires.open)
    (subst (λ r. CanBeCounted (read_by r.search)) (sym c.self.view_is) c.requires.few)
    c.next_counted-self-inside.ensures.kept c.next_counted-self-inside.ensures.finds

pub returns-then-is_none-clause-looks : goal.returns-then-is_none-clause-looks
returns-then-is_none-clause-looks g c =
    let none = none-met c.self.inside.met c.if-is_none.ensures in
    subst (λ r.
    LooksForMatch r
    (record (replacer_progress_of c.self.inside)
    { search = c.next_counted-self-inside.new.self; met = c.next_counted-self-inside.result })) c.self.view_is
    (look-on (replacer_progress_of c.self.inside) c.next_counted-self-inside.new.self c.next_counted-self-inside.result
    c.self.invariant none (ap (λ r. r.over) c.self.view_is ∙ c.requires.open)
    (subst (λ r. CanBeCounted (read_by r.search)) (sym c.self.view_is) c.requires.few)
    c.next_counted-self-inside.ensures.kept c.next_counted-self-inside.ensures.finds)

pub returns-else-is_none-clause-counts : goal.returns-else-is_none-clause-counts
returns-else-is_none-clause-counts g c = StreamCounts-none c.args.self.now.search c.args.steps.now
