-- A search that has read nothing stands in the start state.
use Rattle.std.proofs.Common.{[], false, subst, sym, arith}
use Rattle.std.proofs.lemmas.Grind.{common_steps}
use Rattle.ac_input.specs.declared.search.Anchored.TheVariants.{No}
use Rattle.ac_automaton.specs.Stream.{IsOnCourse, fresh_progress}
use Rattle.ac_automaton.specs.Stream.Overlapping.Search.{IsListingSearch}
use Rattle.ac_automaton.proofs.ahead.AheadLemmas.{ahead-fresh}
use Rattle.ac_automaton.proofs.stream.StreamListingSearchLemmas.{first_place, fresh-listing-right, fresh-listing-view, less-none}
use Rattle.ac_automaton.proofs.stream.overlapping.search.ListingSearch.beginning.Given.{Over}
use Rattle.ac_automaton.proofs.stream.overlapping.search.ListingSearch.beginning.Goals as goal

right : (g : Over) (c : goal.After-new g)
    → IsListingSearch (g.A.Automaton.Reaches c.args.automaton.now No) (g.A.Automaton.matches c.args.automaton.now)
    (fresh_progress (g.A.Automaton.built c.args.automaton.now)) (first_place c.args.start c.list_len.result)
    c.zero.result.value c.in_ok-bytes.bytes.len [] 0 false
right g c =
    let a = c.args.automaton.now in
    let start = c.args.start in
    let begins = c.requires.starts in
    fresh-listing-right (g.A.Automaton.built a) (g.A.Automaton.supports a) (g.A.Automaton.Reaches a No)
    (g.A.Automaton.matches a) start c.list_len.result c.zero.result.value c.in_ok-bytes.bytes.len c.requires.can begins
    (g.met.A.Automaton.tells a No [] start begins) c.list_len.ensures (omega (arith, c.list_len.type_inv))
    c.zero.ensures c.in_ok-bytes.ensures

pub invariant_of-result : goal.invariant_of-result
invariant_of-result g c =
    let a = c.args.automaton.now in
    let b = g.A.Automaton.built a in
    let view = fresh-listing-view b c.empty.result.items c.zero.result.value c.args.start c.list_len.result
    c.empty.ensures c.zero.ensures c.new.ensures in
    let less = fresh-listing-view b c.empty.result.items c.zero.result.value c.args.start c.list_len.result
    c.empty.ensures c.zero.ensures
    (less-none c.none.result c.new.ensures) in (
      subst IsOnCourse (sym view) (right g c).stands.course,
      subst (λ t. IsListingSearch (g.A.Automaton.Reaches a No) (g.A.Automaton.matches a) t
          (first_place c.args.start c.list_len.result) c.zero.result.value c.in_ok-bytes.bytes.len [] 0 false)
          (sym less)
          (right g c),
      ahead-fresh c.none.ensures.room c.none.ensures.none c.none.ensures.nothing,
      omega (arith, c.none.ensures.nothing),
    )

pub returns-clause-fresh : goal.returns-clause-fresh
returns-clause-fresh g c =
    fresh-listing-view (g.A.Automaton.built c.args.automaton.now) c.empty.result.items c.zero.result.value c.args.start
    c.list_len.result c.empty.ensures c.zero.ensures c.new.ensures

pub returns-clause-kept : goal.returns-clause-kept
returns-clause-kept g c =
    let view = fresh-listing-view (g.A.Automaton.built c.args.automaton.now) c.empty.result.items c.zero.result.value
    c.args.start c.list_len.result c.empty.ensures c.zero.ensures c.new.ensures in
    subst IsOnCourse (sym view) (right g c).stands.course

pub list_len-requires : goal.list_len-requires
list_len-requires g c = grind (arith, common_steps)
