-- A search reads on to the next state that matches.
use Rattle.std.proofs.Common.{◌≡◌, ◌≤◌, ◌+◌, ◌-◌, None, subst, arith}
use Rattle.std.proofs.lemmas.Grind.{common_steps}
use Rattle.ac_input.specs.declared.search.Anchored.TheVariants.{No}
use Rattle.ac_automaton.specs.InMemory.Find.Ahead.{IsAheadOf}
use Rattle.ac_automaton.proofs.lemmas.CursorLemmas.{reached-on, reached-state}
use Rattle.ac_automaton.proofs.in_memory.overlapping.OverlappingAheadLemmas.{onward-stays, settles-none}
use Rattle.ac_automaton.proofs.stream.StreamListingLemmas.{reads-nothing, reads-on}
use Rattle.ac_automaton.proofs.stream.overlapping.search.read_on.Goals as goal

pub list_len-requires : goal.list_len-requires
list_len-requires g c =
    let R = g.A.Automaton.Reaches c.args.automaton.now in
    let stop = c.advance_to_match-stop in
    reached-state R No stop.result.sid
    (reached-on (R No) c.args.place.now.sid _ stop.result.sid ∣ (_, c.requires.stands.1.stands.reads) ∣₁
    stop.ensures.goes.reads)

pub returns-then-from-held-clause-reads : goal.returns-then-from-held-clause-reads
returns-then-from-held-clause-reads g c = (
  c.args.steps.now,
  settles-none c.args.ahead.now c.args.steps.now,
  λ s is.
      let a = c.args.automaton.now in
      reads-nothing (g.A.Automaton.Reaches a No) (g.A.Automaton.matches a) (g.A.Automaton.built a) s c.args.place.now
      c.args.held.now c.args.steps.now is c.requires.given c.if-from-held.true,
)

pub returns-clause-reads : goal.returns-clause-reads
returns-clause-reads g c =
    let a = c.args.automaton.now in
    let stop = c.advance_to_match-stop in
    let cost = stop.ensures.cost in (
      cost.0,
      cost.1,
      λ s is.
          reads-on (g.A.Automaton.Reaches a) (g.A.Automaton.matches a) (g.A.Automaton.built a) s c.args.place.now
          c.args.held.now stop.result c.list_len.result c.args.steps.now cost.0
          (g.met.A.Automaton.tells a No) is c.requires.given c.if-from-held.false stop.ensures.goes cost.2
          c.list_len.ensures (omega (arith, c.list_len.type_inv)),
    )

pub returns-clause-ahead : goal.returns-clause-ahead
returns-clause-ahead g c =
    let a = c.args.automaton.now in
    let stop = c.advance_to_match-stop in
    let place = c.args.place.now in
    let stands = c.requires.stands.1.stands in
    let behind = stands.course.kept.1 in
    let from : place.from ≤ place.at = omega (arith, behind, stands.from, stands.at) in
    let at : place.at - place.from + stop.result.taken ≡ place.at + stop.result.taken - place.from =
    omega (arith, from) in
    subst (λ n. IsAheadOf g.A.Automaton a None c.args.held.now n stop.result.sid stop.new.ahead) at
    (subst (λ sid. IsAheadOf g.A.Automaton a None c.args.held.now (place.at - place.from + stop.result.taken) sid
    stop.new.ahead) (onward-stays (g.A.Automaton.matches a) stop.result.sid) stop.ensures.ahead)

pub overflow_add-result : goal.overflow_add-result
overflow_add-result g c = grind (arith, common_steps)

pub overflow_sub-from : goal.overflow_sub-from
overflow_sub-from g c = grind (arith, common_steps)

pub returns-then-from-held-clause-ahead : goal.returns-then-from-held-clause-ahead
returns-then-from-held-clause-ahead g c = grind (arith, common_steps)

pub advance_to_match-stop-requires-clause-ahead : goal.advance_to_match-stop-requires-clause-ahead
advance_to_match-stop-requires-clause-ahead g c = grind (arith, common_steps)
