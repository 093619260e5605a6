-- Each call shows the first of the rest, and the sums stay within one walk.
use Rattle.std.proofs.lemmas.Grind.{common_steps}
use Rattle.std.proofs.Common.{rules, ◌≡◌, ℕ, ◌+◌, ◌-◌, ◌*◌, ◌≤◌, [], ◌∷◌, drop, MatchOption, sym, subst, arith}
use Rattle.ac_input.specs.Computed.{listing_of}
use Rattle.ac_input.specs.Work.{lookups_per_byte}
use Rattle.ac_automaton.specs.Ahead.{less_ahead, most_ahead}
use Rattle.ac_automaton.specs.Automaton.{searched}
use Rattle.ac_automaton.proofs.in_memory.overlapping.OverlappingAheadLemmas.{HasRun, come-shown, less-counted, run-looks, run-on}
use Rattle.ac_automaton.proofs.in_memory.overlapping.OverlappingStateLemmas.{shown-counted, stands-work, yields-next}
use Rattle.ac_automaton.proofs.in_memory.overlapping.iter.FindOverlappingIter.next_counted.Given.{Over}
use Rattle.ac_automaton.proofs.in_memory.overlapping.iter.FindOverlappingIter.next_counted.Goals.{After-add-2}
use Rattle.ac_automaton.proofs.in_memory.overlapping.iter.FindOverlappingIter.next_counted.Goals as goal

-- what the call leaves
ran : (g : Over) (c : After-add-2 g)
    → HasRun g.A.Automaton c.self.inside.automaton.now c.self.inside.input c.self.inside.shown.value
    c.show_next-shown.result c.with_found-self-inside.result.value c.add.new.self c.show_next-shown.new.ahead
ran g c =
    let i = c.self.inside in
    let inv = c.self.invariant in
    let shown = c.show_next-shown in
    run-on g.A.Automaton i.automaton.now i.input shown.result c.with_found-self-inside.result.value i.sums
    c.add.new.self shown.new.steps i.ahead
    shown.new.ahead inv.3 inv.4 inv.6 shown.ensures.shows shown.ensures.paid c.new-done.ensures c.add.ensures
    c.with_found-self-inside.ensures

pub invariant_of-self : goal.invariant_of-self
invariant_of-self g c =
    let inv = c.self.invariant in
    let run = ran g c in
    (inv.0, inv.1, inv.2, run.stands, run.counted, c.show_next-shown.ensures.ahead, run.made)

pub returns-clause-gives : goal.returns-clause-gives
returns-clause-gives g c =
    let i = c.self.inside in
    let L = listing_of (searched (g.A.Automaton.built i.automaton.now) i.input) in
    let n : ℕ = i.shown.value in
    let r = c.show_next-shown.result.found in
    let yields = yields-next L n r (ran g c).shows.0 in
    let counted = subst (λ k. MatchOption r ((drop n L ≡ []) × (drop k L ≡ [])) (λ o. drop n L ≡ o ∷ drop k L))
    (sym c.with_found-self-inside.ensures) yields in
    (rw (← c.self.view_is) counted, search rules)

pub returns-clause-cost : goal.returns-clause-cost
returns-clause-cost g c =
    let i = c.self.inside in
    let a = i.automaton.now in
    let inv = c.self.invariant in
    let shown = c.show_next-shown in
    let run = ran g c in
    let b = g.A.Automaton.built a in
    let s = searched b i.input in
    let work = stands-work run.stands in
    let looks = run-looks i.reads_ahead g.A.Automaton a i.input
    c.add.new.self shown.new.ahead inv.0 run.stands shown.ensures.ahead in
    let come = come-shown b i.input shown.result.place shown.result.found inv.1 run.shows.2 in (
      search rules,
      record { looked = looks.0; scanned = work.scanned; moved = work.moved },
      subst (λ at. c.add.new.self.looked.value
          ≤ lookups_per_byte b.deterministic * (at - i.input.span.start) + most_ahead) come looks.1,
    )

pub returns-clause-counted : goal.returns-clause-counted
returns-clause-counted g c =
    let i = c.self.inside in
    let b = g.A.Automaton.built i.automaton.now in
    let shown = c.show_next-shown in
    let run = ran g c in
    less-counted b i.input _ c.add.new.self shown.new.ahead
    (shown-counted b i.input shown.result (less_ahead c.add.new.self shown.new.ahead) run.counted run.shows.2)

pub show_next-shown-requires-clause-standard : goal.show_next-shown-requires-clause-standard
show_next-shown-requires-clause-standard g c = grind (arith, common_steps)

pub show_next-shown-requires-clause-free : goal.show_next-shown-requires-clause-free
show_next-shown-requires-clause-free g c = grind (arith, common_steps)

pub show_next-shown-requires-clause-starts : goal.show_next-shown-requires-clause-starts
show_next-shown-requires-clause-starts g c = grind (arith, common_steps)

pub show_next-shown-requires-clause-left : goal.show_next-shown-requires-clause-left
show_next-shown-requires-clause-left g c = grind (arith, common_steps)

pub show_next-shown-requires-clause-ahead : goal.show_next-shown-requires-clause-ahead
show_next-shown-requires-clause-ahead g c = grind (arith, common_steps)
