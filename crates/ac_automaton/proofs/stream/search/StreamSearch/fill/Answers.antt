-- The bytes of a read are held after the bytes held before.
use Rattle.std.proofs.Common.{[], ◌-◌, ◌∙◌, ap, length, nat_lt, subst, sym, arith}
use Rattle.std.proofs.lemmas.Grind.{common_steps}
use Rattle.std.proofs.lemmas.List.{take_rest}
use Rattle.ac_input.specs.Number.{usize_max}
use Rattle.ac_automaton.specs.Stream.{HasRead, IsSearched}
use Rattle.ac_automaton.specs.declared.stream.search.StreamSearch.TheInside.{Inside}
use Rattle.ac_automaton.proofs.stream.StreamAheadLemmas.{IsKept, filled-longer, forgotten-kept}
use Rattle.ac_automaton.proofs.stream.StreamSearchLemmas.{HasFilled, come_by, fill-failed, fill-gave, grown_to}
use Rattle.ac_automaton.proofs.stream.search.StreamSearch.fill.Given.{Over}
use Rattle.ac_automaton.proofs.stream.search.StreamSearch.fill.Goals as goal
use Rattle.ac_automaton.proofs.stream.search.StreamSearch.fill.Goals.{After-and-self-inside-2}

-- the read failed
failed : (g : Over) (c : goal.After-self-1 g)
    → HasFilled g.A.Automaton g.R.Read.remaining c.self.inside
    (grown_to c.self.inside c.and-self-inside.result.items c.fill.new.self c.self.inside.over) c.args.reader.now
    c.fill.new.reader [] 1
failed g c =
    let i = c.self.inside in
    fill-failed g.A.Automaton i c.and-self-inside.result.items c.self.invariant.1 (ap (λ t. t.closed) c.self.view_is
    ∙ c.requires.unclosed) c.in-Err.ensures.gave.1
    c.in-Err.ensures.paid c.and-self-inside.ensures c.in-Err.ensures.gave.0

pub invariant_of-self : goal.invariant_of-self
invariant_of-self g c =
    let i = c.self.inside in
    let long = ap (λ h. length h.bytes) c.in-Err.ensures.gave.1 in
    let held = ap length c.held.ensures in
    forgotten-kept g.A.Automaton i c.and-self-inside.result.items i.progress.from c.fill.new.self i.over
    (length c.held.result.now) c.forget.new.self c.self.invariant
    (subst IsSearched (sym c.self.view_is) c.requires.searched) (failed g c).right c.forget.ensures
    (omega (arith, long, held))

pub returns-in-Err-clause-read : goal.returns-in-Err-clause-read
returns-in-Err-clause-read g c =
    subst (λ t. HasRead g.R.Read.remaining t
    (come_by g.A.Automaton (grown_to c.self.inside c.and-self-inside.result.items c.fill.new.self c.self.inside.over))
    c.args.reader.now c.fill.new.reader [] 1) c.self.view_is (failed g c).read

pub returns-in-Err-clause-kept : goal.returns-in-Err-clause-kept
returns-in-Err-clause-kept g c = (invariant_of-self g c).0

-- what the search keeps after it read some bytes, what was read ahead of it left aside
abbrev after : (g : Over) → After-and-self-inside-2 g → Inside g.row.A.Denot
after g c =
    grown_to c.self.inside c.and-self-inside-2.result.items c.fill.new.self
    (nat_lt (usize_max - c.self.inside.progress.from) (length c.held-held.result.now))

-- what the read returned
gave : (g : Over) (c : After-and-self-inside-2 g)
    → HasFilled g.A.Automaton g.R.Read.remaining c.self.inside (after g c) c.args.reader.now c.fill.new.reader
    c.in-Ok.ensures.gave.piece 0
gave g c =
    fill-gave g.A.Automaton c.self.inside c.and-self-inside-2.result.items c.held-held.result.now c.self.invariant.1
    (ap (λ t. t.closed) c.self.view_is ∙ c.requires.unclosed) c.in-Ok.ensures.gave c.in-Ok.ensures.paid
    c.held-held.ensures (rw take_rest at c.and-self-inside-2.ensures) (omega arith)

-- what the search keeps is right
kept : (g : Over) (c : After-and-self-inside-2 g)
    → IsKept g.A.Automaton (record (after g c) { ahead = c.forget.new.self })
kept g c =
    let i = c.self.inside in
    let long = filled-longer
    c.in-Ok.ensures.gave in
    forgotten-kept g.A.Automaton i c.and-self-inside-2.result.items i.progress.from c.fill.new.self
    (nat_lt (usize_max - i.progress.from) (length c.held-held.result.now)) (length c.held.result.now) c.forget.new.self
    c.self.invariant (subst IsSearched (sym c.self.view_is) c.requires.searched) (gave g c).right c.forget.ensures
    (omega (arith, long, ap length c.held.ensures))

-- the read, by how far the search had come
has-read : (g : Over) (c : After-and-self-inside-2 g)
    → HasRead g.R.Read.remaining c.args.self.now (come_by g.A.Automaton (after g c)) c.args.reader.now c.fill.new.reader
    c.in-Ok.ensures.gave.piece 0
has-read g c =
    subst (λ t. HasRead g.R.Read.remaining t (come_by g.A.Automaton (after g c)) c.args.reader.now c.fill.new.reader
    c.in-Ok.ensures.gave.piece 0) c.self.view_is (gave g c).read

pub invariant_of-self-then-self : goal.invariant_of-self-then-self
invariant_of-self-then-self g c = kept g (goal.at.invariant_of-self-then-self g c).After-and-self-inside-2

pub returns-then-self-clause-read : goal.returns-then-self-clause-read
returns-then-self-clause-read g c =
    let d = (goal.at.returns-then-self-clause-read g c).After-and-self-inside-2 in
    (c.in-Ok.ensures.gave.piece, has-read g d, (gave g d).right.uncountable c.if-self.true)

pub returns-then-self-clause-kept : goal.returns-then-self-clause-kept
returns-then-self-clause-kept g c = (kept g (goal.at.returns-then-self-clause-kept g c).After-and-self-inside-2).0

pub invariant_of-self-2 : goal.invariant_of-self-2
invariant_of-self-2 g c = kept g (goal.at.invariant_of-self-2 g c).After-and-self-inside-2

pub returns-clause-read : goal.returns-clause-read
returns-clause-read g c =
    let d = (goal.at.returns-clause-read g c).After-and-self-inside-2 in
    (c.in-Ok.ensures.gave.piece, has-read g d, c.in-Ok.ensures.gave.count, (gave g d).right.countable c.if-self.false)

pub returns-clause-kept : goal.returns-clause-kept
returns-clause-kept g c = (kept g (goal.at.returns-clause-kept g c).After-and-self-inside-2).0

pub fill-requires-clause-room : goal.fill-requires-clause-room
fill-requires-clause-room g c = grind (arith, common_steps)

pub overflow_sub-held : goal.overflow_sub-held
overflow_sub-held g c = grind (arith, common_steps)

pub returns-clause-steps : goal.returns-clause-steps
returns-clause-steps g c = grind (arith, common_steps)

pub forget-requires : goal.forget-requires
forget-requires g c = grind (arith, common_steps)

pub fill-requires-clause-open : goal.fill-requires-clause-open
fill-requires-clause-open g c = grind (arith, common_steps)

pub returns-in-Err-clause-steps : goal.returns-in-Err-clause-steps
returns-in-Err-clause-steps g c = grind (arith, common_steps)

pub returns-in-Err-clause-from : goal.returns-in-Err-clause-from
returns-in-Err-clause-from g c = grind (arith, common_steps)

pub slice_bounds-and-count : goal.slice_bounds-and-count
slice_bounds-and-count g c = grind (arith, common_steps)

pub slice_bounds-and-start : goal.slice_bounds-and-start
slice_bounds-and-start g c = grind (arith, common_steps)

pub slice_bounds-and-end-2 : goal.slice_bounds-and-end-2
slice_bounds-and-end-2 g c = grind (arith, common_steps)

pub overflow_sub-self : goal.overflow_sub-self
overflow_sub-self g c = grind (arith, common_steps)

pub returns-then-self-clause-steps : goal.returns-then-self-clause-steps
returns-then-self-clause-steps g c = grind (arith, common_steps)

pub returns-then-self-clause-from : goal.returns-then-self-clause-from
returns-then-self-clause-from g c = grind (arith, common_steps)

pub returns-clause-from : goal.returns-clause-from
returns-clause-from g c = grind (arith, common_steps)
