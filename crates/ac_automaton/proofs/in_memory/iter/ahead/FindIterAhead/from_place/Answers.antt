-- A walk that has not begun has read nothing ahead.
use Rattle.std.proofs.Common.{rules, ◌∙◌, ◌≤◌, min, arith}
use Rattle.ac_automaton.specs.Ahead.{less_ahead}
use Rattle.ac_automaton.specs.InMemory.Iter.{walk_at}
use Rattle.ac_automaton.proofs.in_memory.find.ahead.FindAheadLemmas.{reads-fresh}
use Rattle.ac_automaton.proofs.in_memory.iter.IterLemmas.{fresh-budget}
use Rattle.ac_automaton.proofs.in_memory.iter.WalkAheadLemmas.{fresh-counts}
use Rattle.ac_automaton.proofs.in_memory.iter.ahead.FindIterAhead.from_place.Goals as goal

pub invariant_of-result : goal.invariant_of-result
invariant_of-result g c =
    let input = c.set_start.new.self in
    let w = walk_at (g.A.Automaton.built c.args.automaton.now) c.more-first.result.value input c.args.place.last 0
    (less_ahead c.new.result c.forget.new.self) in
    let looked = c.new.ensures.looked in
    let here : input.span.start ≤ c.more-first.result.value = search rules in
    let none = c.forget.ensures.ahead ∙ c.none-ahead.ensures.nothing in (
      search rules,
      search rules,
      fresh-budget _ (omega (arith, looked)) c.new.ensures.scanned c.new.ensures.moved,
      fresh-counts w here,
      reads-fresh g.A.Automaton c.args.automaton.now c.reads_from-start.result input
          (min input.span.start input.span.end) c.forget.new.self c.reads_from-start.ensures c.forget.ensures.room
          c.forget.ensures.left none,
      omega (arith, none, c.forget.ensures.until, c.more-first.ensures, c.zero.ensures),
      omega (arith, none),
    )
