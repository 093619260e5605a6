-- How reading on by notes moves the cursor.
use Rattle.std.proofs.Common.{◌+◌, None, take, subst, arith}
use Rattle.std.proofs.lemmas.Grind.{common_steps}
use Rattle.ac_input.specs.declared.search.Anchored.TheVariants.{No}
use Rattle.ac_automaton.specs.InMemory.Find.Ahead.{IsAheadOf}
use Rattle.ac_automaton.proofs.in_memory.overlapping.OverlappingAheadLemmas.{cursor-read_ahead, onward-stays}
use Rattle.ac_automaton.proofs.in_memory.overlapping.ahead.read_on.Goals as goal

pub returns-clause-stands : goal.returns-clause-stands
returns-clause-stands g c =
    let a = c.args.automaton.now in
    let met = g.met.A.Automaton in
    let may = c.requires.stands in
    let stop = c.advance_to_match-stop in
    (cursor-read_ahead g.A.Automaton a c.args.input.now c.args.cursor stop.result _ _ (met.tells a No) may.standard
    c.requires.free may.cursor c.requires.open
    (rw (c.haystack.ensures, c.end.ensures.value) at stop.ensures.goes)
    (rw (c.haystack.ensures, c.end.ensures.value) at stop.ensures.cost.2)).0

pub returns-clause-on : goal.returns-clause-on
returns-clause-on g c =
    let a = c.args.automaton.now in
    let met = g.met.A.Automaton in
    let may = c.requires.stands in
    let stop = c.advance_to_match-stop in (
      stop.ensures.cost.0,
      stop.ensures.cost.1,
      (cursor-read_ahead g.A.Automaton a c.args.input.now c.args.cursor stop.result _ _ (met.tells a No) may.standard
          c.requires.free may.cursor c.requires.open
          (rw (c.haystack.ensures, c.end.ensures.value) at stop.ensures.goes)
          (rw (c.haystack.ensures, c.end.ensures.value) at stop.ensures.cost.2)).1,
    )

pub returns-clause-ahead : goal.returns-clause-ahead
returns-clause-ahead g c =
    let a = c.args.automaton.now in
    let stop = c.advance_to_match-stop in
    let there = rw (c.haystack.ensures, c.end.ensures.value) at stop.ensures.ahead in
    subst (λ sid. IsAheadOf g.A.Automaton a None (take c.args.input.now.span.end c.args.input.now.haystack)
    (c.args.cursor.at + stop.result.taken) sid stop.new.ahead) (onward-stays (g.A.Automaton.matches a) stop.result.sid)
    there

pub overflow_add-result : goal.overflow_add-result
overflow_add-result g c = grind (arith, common_steps)

pub slice_bounds-bytes-end : goal.slice_bounds-bytes-end
slice_bounds-bytes-end g c = grind (arith, common_steps)

pub advance_to_match-stop-requires-clause-ahead : goal.advance_to_match-stop-requires-clause-ahead
advance_to_match-stop-requires-clause-ahead g c = grind (arith, common_steps)

pub returns-clause-from : goal.returns-clause-from
returns-clause-from g c = grind (arith, common_steps)
