-- The state keeps where the search stands, and its sums are within one walk.
use Rattle.std.proofs.Common.{ℕ, ◌+◌, drop, is_some, if◌then◌else◌, inr, sym, ap, subst, ◌∙◌}
use Rattle.ac_input.specs.Computed.{listing_of}
use Rattle.ac_input.specs.Input.{search_of}
use Rattle.ac_input.specs.Work.{come_at_least}
use Rattle.ac_automaton.specs.InMemory.Overlapping.{IsCountedTo, StandsAt, stands_at_least}
use Rattle.ac_automaton.specs.Automaton.{searched}
use Rattle.ac_automaton.proofs.in_memory.overlapping.OverlappingStateLemmas.{came-counted, came-stands, came-work, counted-after, stands-after, stands-work, found-after, shown-counted}
use Rattle.ac_automaton.proofs.in_memory.overlapping.find_overlapping.Given.{Over}
use Rattle.ac_automaton.proofs.in_memory.overlapping.find_overlapping.Goals as goal

-- where the search stood before the call
before : (g : Over) (c : goal.After-keep g)
    → let a = c.args.automaton.now in
    let b = g.A.Automaton.built a in
    let asked = c.args.input.now in
    StandsAt (g.A.Automaton.Reaches a asked.anchored) (g.A.Automaton.matches a) b.dictionary b.deterministic
    (search_of b.dictionary asked.anchored asked.haystack asked.span) c.unwrap_or-place.result
    c.args.state.now.shown.value c.args.state.now.sums
before g c =
    let a = c.args.automaton.now in
    let b = g.A.Automaton.built a in
    let asked = c.args.input.now in
    let R = g.A.Automaton.Reaches a in
    let E = g.A.Automaton.matches a in
    let state = c.args.state.now in
    let first = came-stands b R E asked state c.in_ok-beginning.beginning.place c.in_ok-beginning.ensures.2
    c.in_ok-beginning.ensures.3 c.requires in
    subst (λ p. StandsAt (R asked.anchored) E b.dictionary b.deterministic
    (search_of b.dictionary asked.anchored asked.haystack asked.span) p state.shown.value state.sums)
    (sym c.unwrap_or-place.ensures) first

-- where the search stands after the call
after : (g : Over) (c : goal.After-keep g)
    → let a = c.args.automaton.now in
    let b = g.A.Automaton.built a in
    let asked = c.args.input.now in
    StandsAt (g.A.Automaton.Reaches a asked.anchored) (g.A.Automaton.matches a) b.dictionary b.deterministic
    (search_of b.dictionary asked.anchored asked.haystack asked.span) c.search_overlapping-shown.result.place
    (if is_some c.search_overlapping-shown.result.found then c.args.state.now.shown.value + 1
    else c.args.state.now.shown.value) c.keep.new.self.sums
after g c =
    let n : ℕ = c.args.state.now.shown.value in
    let stands = before g c in
    let shows = c.search_overlapping-shown.ensures.shows
    (drop n (listing_of
    (search_of (g.A.Automaton.built c.args.automaton.now).dictionary c.args.input.now.anchored c.args.input.now.haystack
    c.args.input.now.span))) stands.left in
    stands-after c.search_overlapping-shown.result c.keep.new.self.sums stands shows
    c.search_overlapping-shown.ensures.pays c.new-done.ensures c.keep.ensures.sums

-- each byte is counted up to where the search stands
counted : (g : Over) (c : goal.After-keep g)
    → IsCountedTo (g.A.Automaton.built c.args.automaton.now) c.args.input.now
    (stands_at_least (searched (g.A.Automaton.built c.args.automaton.now) c.args.input.now)
    c.search_overlapping-shown.result.place) c.keep.new.self.sums
counted g c =
    let a = c.args.automaton.now in
    let b = g.A.Automaton.built a in
    let asked = c.args.input.now in
    let state = c.args.state.now in
    let first = came-counted b (g.A.Automaton.Reaches a) (g.A.Automaton.matches a) asked state
    c.in_ok-beginning.beginning.place c.in_ok-beginning.ensures.4 c.requires in
    let had = subst (λ p. IsCountedTo b asked (stands_at_least (searched b asked) p) state.sums)
    (sym c.unwrap_or-place.ensures) first in
    counted-after b asked c.unwrap_or-place.result c.search_overlapping-shown.result state.sums
    c.search_overlapping-shown.new.steps c.keep.new.self.sums had c.search_overlapping-shown.ensures.counts
    c.new-done.ensures c.keep.ensures.sums

pub returns-clause-came : goal.returns-clause-came
returns-clause-came g c =
    let a = c.args.automaton.now in
    let b = g.A.Automaton.built a in
    let asked = c.args.input.now in
    let place = c.search_overlapping-shown.result.place in
    inr (
      place,
      c.keep.ensures.place,
      subst (λ k. StandsAt (g.A.Automaton.Reaches a asked.anchored) (g.A.Automaton.matches a) b.dictionary
          b.deterministic
          (search_of b.dictionary asked.anchored asked.haystack asked.span) place k c.keep.new.self.sums)
          (sym c.keep.ensures.shown) (after g c),
      counted g c,
    )

pub returns-clause-answer : goal.returns-clause-answer
returns-clause-answer g c =
    let a = c.args.automaton.now in
    let b = g.A.Automaton.built a in
    let asked = c.args.input.now in
    let s = search_of b.dictionary asked.anchored asked.haystack asked.span in
    let n : ℕ = c.args.state.now.shown.value in
    let shows = c.search_overlapping-shown.ensures.shows (drop n (listing_of s)) (before g c).left in (
      c.in_ok-beginning.ensures.0,
      record {
        found = c.keep.ensures.found ∙ found-after (g.A.Automaton.Reaches a asked.anchored) (g.A.Automaton.matches a)
            b.dictionary s n c.search_overlapping-shown.result shows;
        shown = c.keep.ensures.shown ∙ ap (λ f. if is_some f then n + 1 else n) (sym c.keep.ensures.found);
        counted = subst (λ r. IsCountedTo b asked (come_at_least s r) c.keep.new.self.sums) (sym c.keep.ensures.found)
            (shown-counted b asked c.search_overlapping-shown.result c.keep.new.self.sums (counted g c) shows.2);
      },
    )

pub returns-clause-cost : goal.returns-clause-cost
returns-clause-cost g c =
    stands-work (after g c)

pub returns-in_err-beginning-clause-cost : goal.returns-in_err-beginning-clause-cost
returns-in_err-beginning-clause-cost g c =
    let a = c.args.automaton.now in
    came-work (g.A.Automaton.built a) (g.A.Automaton.Reaches a) (g.A.Automaton.matches a) c.args.input.now
    c.args.state.now c.requires
