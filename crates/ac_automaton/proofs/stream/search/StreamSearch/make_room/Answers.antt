-- The bytes after the cut are moved to the front.
use Rattle.std.proofs.Common.{sym, ap, subst, ◌∙◌, length, arith}
use Rattle.std.proofs.lemmas.Grind.{common_steps}
use Rattle.ac_automaton.specs.Stream.{IsSearched, cut_of}
use Rattle.ac_automaton.proofs.stream.StreamAheadLemmas.{forgotten-kept, rolled-long}
use Rattle.ac_automaton.proofs.stream.StreamSearchLemmas.{roll-right}
use Rattle.ac_automaton.proofs.stream.search.StreamSearch.make_room.Goals as goal
use Rattle.ac_automaton.proofs.stream.StreamCountLemmas.{StreamCounts-none}

pub returns-else-is_full-clause-counts : goal.returns-else-is_full-clause-counts
returns-else-is_full-clause-counts g c = StreamCounts-none c.args.self.now c.args.steps.now

pub invariant_of-self : goal.invariant_of-self
invariant_of-self g c =
    let i = c.self.inside in
    let cut = c.cut-cut.result in
    let new = c.roll.new.self in
    let at = c.cut-cut.ensures.cut ∙ sym (ap cut_of c.self.view_is) in
    let settled = roll-right cut
    c.self.invariant.1 at c.roll.ensures.rolled c.roll.ensures.paid in
    let long = rolled-long i.buffer new i.progress.from cut c.roll.ensures.rolled
    (omega (arith, c.self.invariant.0.kept.0, at)) in
    let held = ap length c.held.ensures in
    forgotten-kept g.A.Automaton i i.pieces.items cut new i.over (length c.held.result.now) c.forget.new.self
    c.self.invariant (subst IsSearched (sym c.self.view_is) c.requires) settled c.forget.ensures
    (omega (arith, long, held))

pub held-requires : goal.held-requires
held-requires g c = grind (arith, common_steps)

pub roll-requires-clause-kept : goal.roll-requires-clause-kept
roll-requires-clause-kept g c = grind (arith, common_steps)

pub returns-else-is_full-clause-room : goal.returns-else-is_full-clause-room
returns-else-is_full-clause-room g c = grind (arith, common_steps)

pub returns-then-is_full-clause-room : goal.returns-then-is_full-clause-room
returns-then-is_full-clause-room g c = grind (arith, common_steps)

pub returns-then-is_full-clause-same : goal.returns-then-is_full-clause-same
returns-then-is_full-clause-same g c = grind (arith, common_steps)

pub returns-then-is_full-clause-counts : goal.returns-then-is_full-clause-counts
returns-then-is_full-clause-counts g c = grind (arith, common_steps)

pub returns-then-is_full-clause-kept : goal.returns-then-is_full-clause-kept
returns-then-is_full-clause-kept g c = grind (arith, common_steps)

pub overflow_sub-cut : goal.overflow_sub-cut
overflow_sub-cut g c = grind (arith, common_steps)

pub roll-requires-clause-full : goal.roll-requires-clause-full
roll-requires-clause-full g c = grind (arith, common_steps)

pub roll-requires-clause-from : goal.roll-requires-clause-from
roll-requires-clause-from g c = grind (arith, common_steps)

pub forget-requires : goal.forget-requires
forget-requires g c = grind (arith, common_steps)

pub same-self : goal.same-self
same-self g c = grind (arith, common_steps)

pub returns-else-is_full-clause-same : goal.returns-else-is_full-clause-same
returns-else-is_full-clause-same g c = grind (arith, common_steps)

pub returns-else-is_full-clause-kept : goal.returns-else-is_full-clause-kept
returns-else-is_full-clause-kept g c = grind (arith, common_steps)
