-- The first match is the match of the search, or the best so far; without one, the span ends where the search has read to.
use Rattle.std.proofs.Common.{◌-◌, ◌≤◌, length, None, Some, ap, subst, sym, ◌∙◌, arith}
use Rattle.ac_input.specs.Steps.{Done}
use Rattle.std.proofs.lemmas.Grind.{common_steps}
use Rattle.std.proofs.lemmas.Bool.{false≢true}
use Rattle.ac_automaton.specs.Automaton.{IsFindCost, IsFound, kind_asked}
use Rattle.ac_automaton.proofs.in_memory.find.FindWalkLemmas.{rest, text_read}
use Rattle.ac_automaton.proofs.in_memory.find.ahead.FindAheadLemmas.{is-found}
use Rattle.ac_automaton.proofs.in_memory.find.plain.PlainLemmas.{met-none, met-on, met-some, plain-first, plain-met, plain-none, plain-nothing, plain-stands}
use Rattle.ac_automaton.proofs.in_memory.find.plain.RuledOutLemmas.{ruled-cost, ruled-found}
use Rattle.ac_automaton.proofs.in_memory.find.plain.find.Goals.{then-cursor-end-via-then-cursor-end, then-cursor-end-via-else-cursor-end+then-is_dead}
use Rattle.ac_automaton.proofs.lemmas.CursorLemmas.{list-none}
use Rattle.ac_automaton.proofs.lemmas.WalkEndLemmas.{Died, Ended, IsDone}
use Rattle.ac_automaton.proofs.in_memory.find.plain.find.Given.{Over}
use Rattle.ac_automaton.proofs.in_memory.find.plain.find.Goals as goal

pub returns-then-is_ruled_out-clause-found : goal.returns-then-is_ruled_out-clause-found
returns-then-is_ruled_out-clause-found g c =
    let asked = c.args.input.now in
    let inside : asked.span.end ≤ length asked.haystack = rw c.end-end.ensures.value at c.end-end.ensures.within in
    ruled-found (g.A.Automaton.built c.args.automaton.now) asked (c.is_plain.ensures c.if-not-is_plain.false).free
    c.requires.ordered inside (c.is_ruled_out.ensures c.if-is_ruled_out.true)

pub returns-then-is_ruled_out-clause-cost : goal.returns-then-is_ruled_out-clause-cost
returns-then-is_ruled_out-clause-cost g c =
    let asked = c.args.input.now in
    let many = ap (λ end. end - c.start-from.result) c.end-end.ensures.value ∙ ap (λ from. asked.span.end - from) c.start-from.ensures in
    ruled-cost (g.A.Automaton.built c.args.automaton.now) asked (c.is_plain.ensures c.if-not-is_plain.false).free
    c.requires.ordered c.args.steps.now c.looks.new.self
    (subst (λ n. Done n 0 0 c.args.steps.now c.looks.new.self) many c.looks.ensures)

pub read_to_match-cursor-requires-clause-stands : goal.read_to_match-cursor-requires-clause-stands
read_to_match-cursor-requires-clause-stands g c =
    let a = c.args.automaton.now in
    let asked = c.args.input.now in
    let inside : asked.span.end ≤ length asked.haystack = rw c.end-end.ensures.value at c.end-end.ensures.within in
    plain-stands g.A.Automaton a asked c.args.start (g.met.A.Automaton.tells a asked.anchored)
    (c.is_plain.ensures c.if-not-is_plain.false) c.requires.starts inside _ c.start-from.ensures c.args.steps.now

pub read_to_match-cursor-requires-clause-none : goal.read_to_match-cursor-requires-clause-none
read_to_match-cursor-requires-clause-none g c =
    let a = c.args.automaton.now in
    let asked = c.args.input.now in
    let inside : asked.span.end ≤ length asked.haystack = rw c.end-end.ensures.value at c.end-end.ensures.within in
    plain-nothing g.A.Automaton a asked c.args.start (g.met.A.Automaton.tells a asked.anchored)
    (c.is_plain.ensures c.if-not-is_plain.false) c.requires.starts inside _ c.start-from.ensures c.args.steps.now

pub read_to_match-cursor-requires-clause-free : goal.read_to_match-cursor-requires-clause-free
read_to_match-cursor-requires-clause-free g c = (c.is_plain.ensures c.if-not-is_plain.false).free

pub read_to_match-cursor-requires-clause-open : goal.read_to_match-cursor-requires-clause-open
read_to_match-cursor-requires-clause-open g c =
    let some = (c.is_plain.ensures c.if-not-is_plain.false).some in
    let first = c.start-from.ensures in
    omega (arith, some, first)

pub read_to_match-cursor-requires-clause-before : goal.read_to_match-cursor-requires-clause-before
read_to_match-cursor-requires-clause-before g c =
    let some = (c.is_plain.ensures c.if-not-is_plain.false).some in
    let first = c.start-from.ensures in
    let end = c.end-end.ensures.value in
    omega (arith, some, first, end)

-- where no state matched
unmet : (g : Over) (c : goal.Then-not-is_match g)
    → IsFound (g.A.Automaton.built c.args.automaton.now) c.args.input.now None
    × IsFindCost (g.A.Automaton.built c.args.automaton.now) c.args.input.now c.args.steps.now c.read_to_match-cursor.new.steps None
unmet g c =
    let a = c.args.automaton.now in
    let asked = c.args.input.now in
    let inside : asked.span.end ≤ length asked.haystack = rw c.end-end.ensures.value at c.end-end.ensures.within in
    let read = c.read_to_match-cursor in
    plain-none g.A.Automaton a asked c.args.start (g.met.A.Automaton.tells a asked.anchored)
    (c.is_plain.ensures c.if-not-is_plain.false) c.requires.starts inside _ c.start-from.ensures read.result
    c.args.steps.now read.new.steps read.ensures.stands read.ensures.from read.ensures.on
    (λ less. read.ensures.stops less (let end = c.end-end.ensures.value in omega (arith, less, end)))
    (λ some. false≢true (sym c.if-not-is_match.true ∙ c.is_match.ensures.1 some))

pub returns-then-not-is_match-clause-found : goal.returns-then-not-is_match-clause-found
returns-then-not-is_match-clause-found g c = (unmet g c).0

pub returns-then-not-is_match-clause-cost : goal.returns-then-not-is_match-clause-cost
returns-then-not-is_match-clause-cost g c = (unmet g c).1

pub is_match-requires : goal.is_match-requires
is_match-requires g c = grind (arith, common_steps)

-- where the first match wins
first : (g : Over) (c : goal.Then-takes_first g)
    → IsFound (g.A.Automaton.built c.args.automaton.now) c.args.input.now (Some c.first_match-best.result)
    × IsFindCost (g.A.Automaton.built c.args.automaton.now) c.args.input.now c.args.steps.now c.read_to_match-cursor.new.steps (Some c.first_match-best.result)
first g c =
    let a = c.args.automaton.now in
    let asked = c.args.input.now in
    let inside : asked.span.end ≤ length asked.haystack = rw c.end-end.ensures.value at c.end-end.ensures.within in
    let read = c.read_to_match-cursor in
    plain-first g.A.Automaton a asked c.args.start (g.met.A.Automaton.tells a asked.anchored)
    (c.is_plain.ensures c.if-not-is_plain.false) c.requires.starts inside _ c.start-from.ensures read.result
    c.first_match-best.result c.args.steps.now read.new.steps read.ensures.stands read.ensures.from read.ensures.on
    c.first_match-best.ensures (c.takes_first.ensures.0 c.if-takes_first.true)

pub returns-then-takes_first-clause-found : goal.returns-then-takes_first-clause-found
returns-then-takes_first-clause-found g c = (first g c).0

pub returns-then-takes_first-clause-cost : goal.returns-then-takes_first-clause-cost
returns-then-takes_first-clause-cost g c = (first g c).1

pub loop-cursor-init : goal.loop-cursor-init
loop-cursor-init g c =
    let a = c.args.automaton.now in
    let asked = c.args.input.now in
    let inside : asked.span.end ≤ length asked.haystack = rw c.end-end.ensures.value at c.end-end.ensures.within in
    let read = c.read_to_match-cursor in
    plain-met g.A.Automaton a asked c.args.start (g.met.A.Automaton.tells a asked.anchored)
    (c.is_plain.ensures c.if-not-is_plain.false) c.requires.starts inside _ c.start-from.ensures read.result
    c.first_match-best.result c.args.steps.now read.new.steps read.ensures.stands read.ensures.from read.ensures.on
    c.first_match-best.ensures

-- where no better match can come
over : (g : Over) (c : goal.Joined-then-cursor-end g)
    → IsFound (g.A.Automaton.built c.args.automaton.now) c.args.input.now (Some c.loop-cursor.best)
    × IsFindCost (g.A.Automaton.built c.args.automaton.now) c.args.input.now c.args.steps.now c.loop-cursor.steps (Some c.loop-cursor.best)
over g c =
    let a = c.args.automaton.now in
    let asked = c.args.input.now in
    let cursor = c.loop-cursor.cursor in
    let has = c.loop-cursor.invariant in
    let done : IsDone (g.A.Automaton.built a).dictionary asked.anchored (kind_asked (g.A.Automaton.built a) asked)
    asked.haystack (rest asked cursor) cursor.at (Some c.loop-cursor.best) =
    elim c.then-cursor-end.branch [
      | then-cursor-end-via-then-cursor-end w ↦ Ended (w.if-cursor-end.true ∙ c.end-end.ensures.value)
      | then-cursor-end-via-else-cursor-end+then-is_dead w ↦
          Died ((w.is_dead.ensures asked.anchored (text_read asked cursor) has.stands.reads).0 w.if-is_dead.true)
    ] in
    is-found g.A.Automaton a asked cursor (Some c.loop-cursor.best) _ _ has done

pub returns-then-cursor-end-clause-found : goal.returns-then-cursor-end-clause-found
returns-then-cursor-end-clause-found g c = (over g c).0

pub returns-then-cursor-end-clause-cost : goal.returns-then-cursor-end-clause-cost
returns-then-cursor-end-clause-cost g c = (over g c).1

pub loop-cursor-preserved-then-is_match : goal.loop-cursor-preserved-then-is_match
loop-cursor-preserved-then-is_match g c =
    let a = c.args.automaton.now in
    let asked = c.args.input.now in
    let tells = g.met.A.Automaton.tells a asked.anchored in
    let has = c.loop-cursor.invariant in
    let read = c.read_on-cursor in
    let walks = met-on g.A.Automaton a asked tells read.result _ has
    (λ standard. false≢true (sym c.if-takes_first.false ∙ c.takes_first.ensures.1 standard))
    (λ dead. false≢true (sym c.if-is_dead.false ∙ (c.is_dead.ensures asked.anchored _ has.stands.reads).1 dead))
    read.ensures.stands read.ensures.from read.ensures.on in
    met-some g.A.Automaton a asked tells (c.is_plain.ensures c.if-not-is_plain.false).free _ _ walks
    c.first_match-best-then-is_match.ensures

pub loop-cursor-preserved : goal.loop-cursor-preserved
loop-cursor-preserved g c =
    let a = c.args.automaton.now in
    let asked = c.args.input.now in
    let tells = g.met.A.Automaton.tells a asked.anchored in
    let has = c.loop-cursor.invariant in
    let read = c.read_on-cursor in
    let walks = met-on g.A.Automaton a asked tells read.result _ has
    (λ standard. false≢true (sym c.if-takes_first.false ∙ c.takes_first.ensures.1 standard))
    (λ dead. false≢true (sym c.if-is_dead.false ∙ (c.is_dead.ensures asked.anchored _ has.stands.reads).1 dead))
    read.ensures.stands read.ensures.from read.ensures.on in
    met-none g.A.Automaton a asked tells (c.is_plain.ensures c.if-not-is_plain.false).free _ walks
    (list-none (g.A.Automaton.matches a read.result.sid)
    (λ some. false≢true (sym c.if-is_match.false ∙ c.is_match-in-loop-cursor.ensures.1 some)))
