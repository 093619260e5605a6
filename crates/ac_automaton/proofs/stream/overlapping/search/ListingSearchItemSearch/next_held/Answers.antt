-- The next occurrence in the bytes read is the next of the walk over the last piece.
use Rattle.std.proofs.lemmas.Grind.{common_steps}
use Rattle.std.proofs.Common.{take, subst, refl, sym, ◌∙◌, ap, arith}
use Rattle.ac_automaton.specs.Stream.{FindsHeld, IsOnCourse, StreamCounts}
use Rattle.ac_automaton.specs.Stream.Overlapping.Walk.{IsAheadFor}
use Rattle.ac_automaton.proofs.stream.StreamListingSearchLemmas.{HasListed, listed-ahead, listed_by, listed_to_inside}
use Rattle.ac_automaton.specs.declared.stream.overlapping.search.ListingSearch.TheInside.{Inside}
use Rattle.ac_automaton.proofs.stream.overlapping.search.ListingSearchItemSearch.next_held.Given.{Over}
use Rattle.ac_automaton.proofs.stream.overlapping.search.ListingSearchItemSearch.next_held.Goals as goal
use Rattle.ac_automaton.proofs.stream.StreamCountLemmas.{StreamCounts-none}

pub returns-then-self-clause-goes : goal.returns-then-self-clause-goes
returns-then-self-clause-goes g c =
    (StreamCounts-none c.args.self.now c.args.steps.now, subst IsOnCourse c.self.view_is c.self.invariant.0)

pub search_stream_overlapping-listed-requires-clause-ahead : goal.search_stream_overlapping-listed-requires-clause-ahead
search_stream_overlapping-listed-requires-clause-ahead g c =
    let i = c.self.inside in
    subst (λ bytes. IsAheadFor g.A.Automaton i.automaton.now bytes i.place i.ahead)
    (sym (ap (take i.filled) c.as_slice.ensures.value)) c.self.invariant.2

-- what was read ahead of the search after the call
known : (g : Over) (c : goal.After-self-2-1 g)
    → IsAheadFor g.A.Automaton c.self.inside.automaton.now (take c.self.inside.filled c.self.inside.bytes.items)
    c.search_stream_overlapping-listed.result.place c.search_stream_overlapping-listed.new.ahead
known g c =
    let listed = c.search_stream_overlapping-listed in
    subst (λ bytes. IsAheadFor g.A.Automaton c.self.inside.automaton.now bytes listed.result.place listed.new.ahead)
    (ap (take c.self.inside.filled) c.as_slice.ensures.value) listed.ensures.ahead

-- what the search keeps after the call
abbrev after : (g : Over) → goal.After-self-2-1 g → Inside g.row.A.Denot
after g c =
    listed_to_inside c.self.inside c.search_stream_overlapping-listed.result c.given_then-self-inside.result
    c.add-2.new.self c.search_stream_overlapping-listed.new.ahead

has-listed : (g : Over) (c : goal.After-self-2-1 g)
    → HasListed g.A.Automaton c.self.inside (after g c) c.search_stream_overlapping-listed.result.found
    c.args.steps.now c.add.new.self
has-listed g c =
    let i = c.self.inside in
    let inv = c.self.invariant in
    let listed = c.search_stream_overlapping-listed in
    let paid = listed.ensures.lists in
    let on =
    paid.2 _
    (record {
      built = refl;
      stands = inv.1.stands;
      bytes = ap (take i.filled) c.as_slice.ensures.value ∙ inv.1.bytes;
      countable = inv.1.countable c.if-self.false;
    }) in
    listed-ahead g.A.Automaton i listed.result c.given_then-self-inside.result listed.new.ahead c.add-2.new.self
    listed.new.steps c.args.steps.now c.add.new.self inv (paid.0, paid.1, on) (known g c)
    c.given_then-self-inside.ensures c.new-taken.ensures c.add.ensures c.add-2.ensures

pub invariant_of-self : goal.invariant_of-self
invariant_of-self g c = (has-listed g c).kept

pub returns-clause-finds : goal.returns-clause-finds
returns-clause-finds g c =
    subst (λ t. FindsHeld t c.search_stream_overlapping-listed.result.found (listed_by g.A.Automaton (after g c)))
    c.self.view_is (has-listed g c).finds

pub returns-clause-goes : goal.returns-clause-goes
returns-clause-goes g c = (
  subst (λ t. StreamCounts t (listed_by g.A.Automaton (after g c)) c.args.steps.now c.add.new.self) c.self.view_is
      (has-listed g c).counts,
  (has-listed g c).kept.0,
)

pub same-self : goal.same-self
same-self g c = grind (arith, common_steps)

pub returns-then-self-clause-finds : goal.returns-then-self-clause-finds
returns-then-self-clause-finds g c = grind (arith, common_steps)

pub slice_bounds-search_stream_overlapping-end : goal.slice_bounds-search_stream_overlapping-end
slice_bounds-search_stream_overlapping-end g c = grind (arith, common_steps)
