-- What was ready is dropped, and the bytes that wait are moved to the front, if no room is left.
use Rattle.std.proofs.Common.{sym, ap, subst, ◌∙◌}
use Rattle.ac_automaton.specs.Stream.Mask.{IsAllMasked, MaskCounts}
use Rattle.ac_automaton.proofs.stream.mask.words.WordPushLemmas.{room-counts, room-is, word_mask_with}
use Rattle.ac_automaton.proofs.stream.mask.words.pushed.WordMasking.make_room.Goals as goal

pub invariant_of-self : goal.invariant_of-self
invariant_of-self g c =
    room-is g.A.Automaton c.self.inside c.self.invariant (ap (λ s. s.closed) c.self.view_is ∙ c.requires.unclosed)
    (subst IsAllMasked (sym c.self.view_is) c.requires.masked) c.make_room.ensures.rolled c.make_room.ensures.made

pub returns-clause-counts : goal.returns-clause-counts
returns-clause-counts g c =
    subst
    (λ s. MaskCounts s (word_mask_with g.A.Automaton c.self.inside c.make_room.new.self) c.args.steps.now
    c.make_room.new.steps) c.self.view_is
    (room-counts g.A.Automaton c.self.inside c.self.invariant
    (ap (λ s. s.closed) c.self.view_is ∙ c.requires.unclosed)
    (subst IsAllMasked (sym c.self.view_is) c.requires.masked) c.make_room.ensures.rolled c.make_room.ensures.made
    c.make_room.ensures.counts)
