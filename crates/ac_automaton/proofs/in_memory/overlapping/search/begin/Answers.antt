-- At the start all of the listing is left.
use Rattle.std.proofs.Common.{rules, ◌≡◌, ◌≤◌, refl, sym, subst, ◌∙◌, arith}
use Rattle.ac_input.specs.declared.search.MatchKind.TheVariants.{Standard}
use Rattle.ac_input.specs.Input.{search_of}
use Rattle.ac_automaton.specs.InMemory.Find.Cursor.{read_to, IsCursor}
use Rattle.ac_automaton.specs.InMemory.Overlapping.{CanOverlap, IsPlacePaid}
use Rattle.ac_automaton.specs.declared.in_memory.overlapping.Position.TheVariants.{At}
use Rattle.ac_automaton.proofs.in_memory.overlapping.OverlappingLemmas.{IsPlace, ending_from-start, ending_from-split}
use Rattle.ac_automaton.proofs.in_memory.overlapping.OverlappingStateLemmas.{read_to-start}
use Rattle.ac_automaton.proofs.in_memory.overlapping.search.begin.Goals as goal

pub returns : goal.returns
returns g c =
    let asked = c.args.input.now in
    let m = (g.A.Automaton.built c.args.automaton.now).dictionary in
    let s = search_of m asked.anchored asked.haystack asked.span in
    let sid = c.in_ok-start.start in
    let R = g.A.Automaton.Reaches c.args.automaton.now asked.anchored in
    let value = c.get_span-span.ensures.value in
    let inside = rw value at c.get_span-span.ensures.within.1 in
    let order : s.start ≤ s.end = rw value at c.if-span.false in
    let first : R (read_to s s.start) sid =
    subst (λ text. R text sid) (sym (read_to-start s)) (rw c.get_anchored.ensures at c.in_ok-start.ensures.1) in
    let standard : m.kind ≡ Standard = search rules in
    let place : IsPlace m asked.anchored s s.start =
    record { by = (refl, refl); anchor = refl; standard = standard; from = omega arith; to = order; inside = inside } in
    let tells = g.met.A.Automaton.tells c.args.automaton.now asked.anchored (read_to s s.start) sid first in
    let cursor : IsCursor R s (record { sid = sid; from = s.start; at = s.start }) =
    record { behind = omega arith; ordered = omega arith; within = order; inside = inside; reads = first } in
    let can : CanOverlap (g.A.Automaton.built c.args.automaton.now) (g.A.Automaton.supports c.args.automaton.now)
    asked = search rules in
    let paid : IsPlacePaid m (g.A.Automaton.built c.args.automaton.now).deterministic s (At sid s.start s.start 0) 0 =
    search rules in
    let first_place : s.start ≤ s.start = omega arith in
    rw value (
      can,
      rw c.get_anchored.ensures at c.in_ok-start.ensures.1,
      (
        cursor,
        sym (ending_from-start s inside)
            ∙ ending_from-split (g.A.Automaton.matches c.args.automaton.now sid) place tells,
      ),
      paid,
      first_place,
    )
