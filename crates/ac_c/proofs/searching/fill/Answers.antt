-- Each turn moves one item into the buffer.
use Rattle.std.proofs.Common.{◌≡◌, [], ◌∷◌, ◌++◌, length, refl, subst, arith}
use Rattle.ac_automaton.proofs.stream.StreamCountLemmas.{StreamCounts-none, StreamCounts-then}
use Rattle.ac_c.specs.Searching.{AreShown}
use Rattle.ac_c.proofs.searching.StreamLemmas.{more-than-none, passed-more, returns-more, returns-none, returns-rest, same-counted, shown-more}
use Rattle.ac_c.proofs.searching.fill.Goals as goal

pub loop-at-init : goal.loop-at-init
loop-at-init g c = (
  [],
  returns-none (g.S.PieceSearch.progress c.args.search.now),
  record { count = refl; room = omega arith; shown = refl },
  λ e. refl,
  λ some. absurd (some refl),
  StreamCounts-none (g.S.PieceSearch.progress c.args.search.now) c.args.steps.now,
)

pub loop-at-preserved : goal.loop-at-preserved
loop-at-preserved g c =
    let i = c.loop-at.invariant in let f = c.in-Some.ensures.finds in
    let p = g.S.PieceSearch.progress in let s = p c.args.search.now in let t = p c.loop-at.search in
    let o = c.in-Some.found in (
      i.0 ++ o ∷ [],
      returns-more s t (p c.next_item.new.self) i.0 o i.1 i.3 i.4 f.0 f.1 f.4 f.5 f.6,
      rw c.from_match.ensures (shown-more i.0 o c.args.out.now c.loop-at.out c.loop-at.at (omega arith)
          c.loop-at.auto.out i.2),
      λ e. absurd (more-than-none i.0 o e),
      λ some. passed-more s t (p c.next_item.new.self) i.0 o i.3 i.4 f.4 f.2,
      StreamCounts-then s t (p c.next_item.new.self) c.args.steps.now c.loop-at.steps c.next_item.new.steps i.5
          c.in-Some.ensures.goes.0,
    )

pub returns-in-None-clause-next : goal.returns-in-None-clause-next
returns-in-None-clause-next g c =
    let i = c.loop-at.invariant in let f = c.in-None.ensures.finds in
    let p = g.S.PieceSearch.progress in let s = p c.args.search.now in let t = p c.loop-at.search in (
      i.0,
      returns-rest s t (p c.next_item.new.self) i.0 i.1 f.0 f.1,
      i.2,
      λ less. λ counted. f.2 (same-counted s t i.1.nothing counted),
    )

pub returns-in-None-clause-cost : goal.returns-in-None-clause-cost
returns-in-None-clause-cost g c =
    let p = g.S.PieceSearch.progress in
    StreamCounts-then (p c.args.search.now) (p c.loop-at.search) (p c.next_item.new.self) c.args.steps.now
    c.loop-at.steps c.next_item.new.steps c.loop-at.invariant.5 c.in-None.ensures.goes.0

pub returns-clause-cost : goal.returns-clause-cost
returns-clause-cost g c = c.loop-at.invariant.5

pub returns-clause-next : goal.returns-clause-next
returns-clause-next g c =
    let i = c.loop-at.invariant in
    let all : c.loop-at.at ≡ length c.loop-at.out = omega (arith, c.loop-at.auto.out, c.loop-at.auto.at-end) in (
      i.0,
      i.1,
      subst (AreShown i.0 c.args.out.now c.loop-at.out) all i.2,
      λ less. absurd (omega (arith, c.loop-at.auto.out)),
    )
