-- The state where the call stops has the match, or the span ends there.
use Rattle.std.proofs.Common.{rules, refl, [], ◌≤◌, length, take, None, Some, sym, ◌∙◌, arith}
use Rattle.std.proofs.lemmas.Grind.{common_steps}
use Rattle.std.proofs.lemmas.Bool.{false≢true}
use Rattle.ac_input.specs.declared.search.Anchored.TheVariants.{No}
use Rattle.ac_input.specs.Dictionary.{IsLive}
use Rattle.ac_input.specs.Input.{is_anchored}
use Rattle.ac_automaton.specs.Ahead.{IsPaid}
use Rattle.ac_automaton.specs.Automaton.{IsFindCost, IsFound, searched}
use Rattle.ac_automaton.proofs.in_memory.find.FindWalkLemmas.{text_read}
use Rattle.ac_automaton.proofs.in_memory.find.ahead.FindAheadLemmas.{ahead-ended, ahead-match, ahead-none, ahead-some, is-found, none-left}
use Rattle.ac_automaton.proofs.in_memory.find.ahead.MetLemmas.{dead-quiet, met-better, met-dead, met-ended, met-same, reached-within, unless-first}
use Rattle.ac_automaton.proofs.lemmas.CursorLemmas.{alive-from, list-none, reached-on, reached-state}
use Rattle.ac_automaton.proofs.lemmas.WalkEndLemmas.{Won}
use Rattle.ac_automaton.proofs.stream.SearchAheadLemmas.{ahead-anywhere}
use Rattle.ac_automaton.proofs.in_memory.find.ahead.find.Given.{Over}
use Rattle.ac_automaton.proofs.in_memory.find.ahead.find.Goals as goal

pub advance_to_match-stop-requires-clause-reached : goal.advance_to_match-stop-requires-clause-reached
advance_to_match-stop-requires-clause-reached g c = ∣ ([], c.requires.may.starts) ∣₁

pub is_match-requires : goal.is_match-requires
is_match-requires g c =
    let R = g.A.Automaton.Reaches c.args.automaton.now in
    reached-state R No c.advance_to_match-stop.result.sid
    (reached-on (R No) c.args.start _ c.advance_to_match-stop.result.sid ∣ ([], c.requires.may.starts) ∣₁
    c.advance_to_match-stop.ensures.goes.reads)

pub returns-then-start-end-clause-found : goal.returns-then-start-end-clause-found
returns-then-start-end-clause-found g c =
    let end = c.end.ensures.value in
    let within = c.end.ensures.within in
    let inside : c.args.input.now.span.end ≤ length c.args.input.now.haystack = omega (arith, end, within) in
    none-left (searched (g.A.Automaton.built c.args.automaton.now) c.args.input.now) inside c.requires.may.filled
    (sym c.start.ensures ∙ c.if-start-end.true ∙ end)

-- the state where the call stopped doesn't match
none : (g : Over) (c : goal.Then-not-is_match g)
    → IsFound (g.A.Automaton.built c.args.automaton.now) c.args.input.now None
    × IsFindCost (g.A.Automaton.built c.args.automaton.now) c.args.input.now c.args.steps.now
    c.advance_to_match-stop.ensures.cost.0 None
none g c =
    let a = c.args.automaton.now in
    let met = g.met.A.Automaton in
    let stop = c.advance_to_match-stop in
    let end = c.end.ensures.value in
    let within = c.end.ensures.within in
    let first = c.start.ensures in
    let other = c.if-start-end.false in
    let ordered = c.requires.ordered in
    ahead-none g.A.Automaton a c.args.input.now c.args.start stop.result _ _ (met.tells a No) c.requires.may
    (omega (arith, ordered, first, end, other)) (omega (arith, end, within))
    (rw (c.haystack.ensures, c.end-2.ensures.value, c.start-2.ensures) at stop.ensures.goes)
    (rw (c.haystack.ensures, c.end-2.ensures.value, c.start-2.ensures) at stop.ensures.cost.2)
    (λ some. false≢true (sym c.if-not-is_match.true ∙ c.is_match.ensures.1 some))

pub returns-then-not-is_match-clause-found : goal.returns-then-not-is_match-clause-found
returns-then-not-is_match-clause-found g c = (none g c).0

pub returns-then-not-is_match-clause-cost : goal.returns-then-not-is_match-clause-cost
returns-then-not-is_match-clause-cost g c =
    (c.advance_to_match-stop.ensures.cost.0, c.advance_to_match-stop.ensures.cost.1, (none g c).1)

-- where the first match is the result, the search is over there
won : (g : Over) (c : goal.Then-takes_first g)
    → IsFound (g.A.Automaton.built c.args.automaton.now) c.args.input.now (Some c.first_match-best.result)
    × IsFindCost (g.A.Automaton.built c.args.automaton.now) c.args.input.now c.args.steps.now
    c.advance_to_match-stop.ensures.cost.0 (Some c.first_match-best.result)
won g c =
    let a = c.args.automaton.now in
    let met = g.met.A.Automaton in
    let stop = c.advance_to_match-stop in
    let end = c.end.ensures.value in
    let within = c.end.ensures.within in
    let first = c.start.ensures in
    let other = c.if-start-end.false in
    let ordered = c.requires.ordered in
    let has =
    ahead-some g.A.Automaton a c.args.input.now c.args.start stop.result _ _ (met.tells a No) c.requires.may
    (omega (arith, ordered, first, end, other)) (omega (arith, end, within))
    (rw (c.haystack.ensures, c.end-2.ensures.value, c.start-2.ensures) at stop.ensures.goes)
    (rw (c.haystack.ensures, c.end-2.ensures.value, c.start-2.ensures) at stop.ensures.cost.2)
    c.first_match-best.result (rw c.start-4.ensures at c.first_match-best.ensures) in
    is-found g.A.Automaton a c.args.input.now _ (Some c.first_match-best.result) _ _ has
    (Won c.first_match-best.result (c.takes_first.ensures.0 c.if-takes_first.true) refl)

pub returns-then-takes_first-clause-found : goal.returns-then-takes_first-clause-found
returns-then-takes_first-clause-found g c = (won g c).0

pub returns-then-takes_first-clause-cost : goal.returns-then-takes_first-clause-cost
returns-then-takes_first-clause-cost g c =
    (c.advance_to_match-stop.ensures.cost.0, c.advance_to_match-stop.ensures.cost.1, (won g c).1)

-- else the search has met a match
pub loop-cursor-init : goal.loop-cursor-init
loop-cursor-init g c =
    let a = c.args.automaton.now in
    let met = g.met.A.Automaton in
    let stop = c.advance_to_match-stop in
    let end = c.end.ensures.value in
    let within = c.end.ensures.within in
    let first = c.start.ensures in
    let other = c.if-start-end.false in
    let ordered = c.requires.ordered in
    let has =
    ahead-some g.A.Automaton a c.args.input.now c.args.start stop.result _ _ (met.tells a No) c.requires.may
    (omega (arith, ordered, first, end, other)) (omega (arith, end, within))
    (rw (c.haystack.ensures, c.end-2.ensures.value, c.start-2.ensures) at stop.ensures.goes)
    (rw (c.haystack.ensures, c.end-2.ensures.value, c.start-2.ensures) at stop.ensures.cost.2)
    c.first_match-best.result (rw c.start-4.ensures at c.first_match-best.ensures) in
    let m = (g.A.Automaton.built a).dictionary in
    let anchored = c.args.input.now.anchored in
    let leftmost = unless-first c.takes_first.ensures c.if-takes_first.false in
    rw (c.start-3.ensures, c.start-4.ensures) (record {
      paid = stop.ensures.cost.0;
      settles = stop.ensures.cost.1;
      has = has;
      alive = alive-from m _ _ (λ dead.
          c.is_match.ensures.0 c.if-not-is_match.false
          (dead-quiet m anchored _ _ c.requires.may.free (λ standard. leftmost (c.requires.may.kind ∙ standard))
          (met.tells a anchored _ _ has.stands.reads) dead));
    })

pub read_on-cursor-requires-clause-stands : goal.read_on-cursor-requires-clause-stands
read_on-cursor-requires-clause-stands g c = c.loop-cursor.invariant.has.stands

pub read_on-cursor-requires-clause-open : goal.read_on-cursor-requires-clause-open
read_on-cursor-requires-clause-open g c =
    let end = c.end-in-loop-cursor.ensures.value in omega (arith, end, c.loop-cursor-test.true)

pub is_dead-requires : goal.is_dead-requires
is_dead-requires g c = ∣ (c.args.input.now.anchored, _, c.read_on-cursor.ensures.stands.reads) ∣₁

-- the text is dead
dead : (g : Over) (c : goal.Then-is_dead g)
    → IsLive (g.A.Automaton.built c.args.automaton.now).dictionary (is_anchored c.args.input.now.anchored)
    (text_read c.args.input.now c.read_on-cursor.result) None
dead g c = (c.is_dead.ensures c.args.input.now.anchored _ c.read_on-cursor.ensures.stands.reads).0 c.if-is_dead.true

-- then the match is the best
over : (g : Over) (c : goal.Then-is_dead g)
    → IsFound (g.A.Automaton.built c.args.automaton.now) c.args.input.now (Some c.loop-cursor.best)
    × IsPaid c.args.ahead.now c.advance_to_match-stop.new.ahead c.read_on-cursor.new.steps
    (λ paid. IsFindCost (g.A.Automaton.built c.args.automaton.now) c.args.input.now c.args.steps.now paid
    (Some c.loop-cursor.best))
over g c =
    let a = c.args.automaton.now in
    let m = (g.A.Automaton.built a).dictionary in
    let asked = c.args.input.now in
    let met = g.met.A.Automaton in
    let on = c.read_on-cursor.ensures in
    let is = dead g c in
    met-dead g.A.Automaton a asked c.read_on-cursor.result c.read_on-cursor.new.steps (met.tells a asked.anchored)
    c.requires.may.free (unless-first c.takes_first.ensures c.if-takes_first.false) c.loop-cursor.invariant on.stands on.from on.on
    (dead-quiet m asked.anchored _ _ c.requires.may.free (λ standard. unless-first c.takes_first.ensures c.if-takes_first.false (c.requires.may.kind ∙ standard))
    (met.tells a asked.anchored _ _ on.stands.reads) is) is

pub returns-then-is_dead-clause-found : goal.returns-then-is_dead-clause-found
returns-then-is_dead-clause-found g c = (over g c).0

pub returns-then-is_dead-clause-cost : goal.returns-then-is_dead-clause-cost
returns-then-is_dead-clause-cost g c = (over g c).1

pub is_match-requires-in-loop-cursor : goal.is_match-requires-in-loop-cursor
is_match-requires-in-loop-cursor g c = ∣ (c.args.input.now.anchored, _, c.read_on-cursor.ensures.stands.reads) ∣₁

pub first_match-best-requires-then-is_match-clause-reads : goal.first_match-best-requires-then-is_match-clause-reads
first_match-best-requires-then-is_match-clause-reads g c =
    let a = c.args.automaton.now in
    let stands = c.read_on-cursor.ensures.stands in
    reached-within (g.A.Automaton.Reaches a) c.args.input.now.anchored c.args.input.now.haystack _ _ _ _
    c.requires.may.free stands.ordered stands.within stands.inside stands.reads

pub loop-cursor-preserved-then-is_match : goal.loop-cursor-preserved-then-is_match
loop-cursor-preserved-then-is_match g c =
    let a = c.args.automaton.now in
    let m = (g.A.Automaton.built a).dictionary in
    let asked = c.args.input.now in
    let met = g.met.A.Automaton in
    let on = c.read_on-cursor.ensures in
    met-better g.A.Automaton a asked c.read_on-cursor.result c.read_on-cursor.new.steps (met.tells a asked.anchored)
    c.requires.may.free (unless-first c.takes_first.ensures c.if-takes_first.false) c.loop-cursor.invariant on.stands on.from on.on
    c.first_match-best-then-is_match.result c.first_match-best-then-is_match.ensures
    (alive-from m _ _
    (λ is. false≢true (sym c.if-is_dead.false ∙ (c.is_dead.ensures asked.anchored _ on.stands.reads).1 is)))

pub loop-cursor-preserved : goal.loop-cursor-preserved
loop-cursor-preserved g c =
    let a = c.args.automaton.now in
    let m = (g.A.Automaton.built a).dictionary in
    let asked = c.args.input.now in
    let met = g.met.A.Automaton in
    let on = c.read_on-cursor.ensures in
    met-same g.A.Automaton a asked c.read_on-cursor.result c.read_on-cursor.new.steps (met.tells a asked.anchored)
    c.requires.may.free (unless-first c.takes_first.ensures c.if-takes_first.false) c.loop-cursor.invariant on.stands on.from on.on
    (list-none (g.A.Automaton.matches a c.read_on-cursor.result.sid)
    (λ some. false≢true (sym c.if-is_match.false ∙ c.is_match-in-loop-cursor.ensures.1 some)))
    (alive-from m _ _
    (λ is. false≢true (sym c.if-is_dead.false ∙ (c.is_dead.ensures asked.anchored _ on.stands.reads).1 is)))

-- where the span ends, the match is the best
ended : (g : Over) (c : goal.After-loop-cursor g)
    → IsFound (g.A.Automaton.built c.args.automaton.now) c.args.input.now (Some c.loop-cursor.best)
    × IsPaid c.args.ahead.now c.advance_to_match-stop.new.ahead c.loop-cursor.steps
    (λ paid. IsFindCost (g.A.Automaton.built c.args.automaton.now) c.args.input.now c.args.steps.now paid
    (Some c.loop-cursor.best))
ended g c =
    let end = c.end-in-loop-cursor.ensures.value in
    let within = c.loop-cursor.invariant.has.stands.within in
    met-ended g.A.Automaton c.args.automaton.now c.args.input.now c.loop-cursor.invariant
    (omega (arith, end, within, c.loop-cursor-test.false))

pub returns-clause-found : goal.returns-clause-found
returns-clause-found g c = (ended g c).0

pub returns-clause-cost : goal.returns-clause-cost
returns-clause-cost g c = (ended g c).1

-- nothing was read
pub returns-then-start-end-clause-cost : goal.returns-then-start-end-clause-cost
returns-then-start-end-clause-cost g c =
    (c.args.steps.now, record { looked = refl; scanned = refl; moved = refl }, search rules)

pub returns-then-not-is_match-clause-ahead : goal.returns-then-not-is_match-clause-ahead
returns-then-not-is_match-clause-ahead g c =
    let a = c.args.automaton.now in
    let stop = c.advance_to_match-stop in
    let end = c.end.ensures.value in
    let within = c.end.ensures.within in
    ahead-ended c.args.start c.args.start c.args.input.now.haystack c.args.input.now.span.start
    c.args.input.now.span.end stop.result
    c.requires.ordered (omega (arith, end, within))
    (λ some. false≢true (sym c.if-not-is_match.true ∙ c.is_match.ensures.1 some))
    (rw (c.haystack.ensures, c.end-2.ensures.value, c.start-2.ensures) at stop.ensures.goes)
    (rw (c.haystack.ensures, c.end-2.ensures.value, c.start-2.ensures) at stop.ensures.ahead)

pub returns-then-takes_first-clause-ahead : goal.returns-then-takes_first-clause-ahead
returns-then-takes_first-clause-ahead g c =
    let stop = c.advance_to_match-stop in
    ahead-match c.args.start stop.result.sid c.first_match-best.result
    (c.is_match.ensures.0 c.if-not-is_match.false) (rw c.start-4.ensures at c.first_match-best.ensures)
    (rw (c.haystack.ensures, c.end-2.ensures.value, c.start-2.ensures) at stop.ensures.ahead)

pub returns-then-is_dead-clause-ahead : goal.returns-then-is_dead-clause-ahead
returns-then-is_dead-clause-ahead g c =
    let input = c.args.input.now in
    ahead-anywhere g.A.Automaton c.args.automaton.now (Some c.args.start) (take input.span.end input.haystack) _ _ _ _ _
    (λ standard. absurd (unless-first c.takes_first.ensures c.if-takes_first.false (c.requires.may.kind ∙ standard)))
    (rw (c.haystack.ensures, c.end-2.ensures.value, c.start-2.ensures) at c.advance_to_match-stop.ensures.ahead)

pub returns-clause-ahead : goal.returns-clause-ahead
returns-clause-ahead g c =
    let input = c.args.input.now in
    ahead-anywhere g.A.Automaton c.args.automaton.now (Some c.args.start) (take input.span.end input.haystack) _ _ _ _ _
    (λ standard. absurd (unless-first c.takes_first.ensures c.if-takes_first.false (c.requires.may.kind ∙ standard)))
    (rw (c.haystack.ensures, c.end-2.ensures.value, c.start-2.ensures) at c.advance_to_match-stop.ensures.ahead)

-- no byte is read ahead twice
pub returns-then-not-is_match-clause-once : goal.returns-then-not-is_match-clause-once
returns-then-not-is_match-clause-once g c =
    rw (c.haystack.ensures, c.end-2.ensures.value) at c.advance_to_match-stop.ensures.once

pub returns-then-takes_first-clause-once : goal.returns-then-takes_first-clause-once
returns-then-takes_first-clause-once g c =
    rw (c.haystack.ensures, c.end-2.ensures.value) at c.advance_to_match-stop.ensures.once

pub returns-then-is_dead-clause-once : goal.returns-then-is_dead-clause-once
returns-then-is_dead-clause-once g c =
    rw (c.haystack.ensures, c.end-2.ensures.value) at c.advance_to_match-stop.ensures.once

pub returns-clause-once : goal.returns-clause-once
returns-clause-once g c = rw (c.haystack.ensures, c.end-2.ensures.value) at c.advance_to_match-stop.ensures.once

pub overflow_add-cursor : goal.overflow_add-cursor
overflow_add-cursor g c = grind (arith, common_steps)

pub returns-then-start-end-clause-ahead : goal.returns-then-start-end-clause-ahead
returns-then-start-end-clause-ahead g c = grind (arith, common_steps)

pub slice_bounds-bytes-end : goal.slice_bounds-bytes-end
slice_bounds-bytes-end g c = grind (arith, common_steps)

pub advance_to_match-stop-requires-clause-ahead : goal.advance_to_match-stop-requires-clause-ahead
advance_to_match-stop-requires-clause-ahead g c = grind (arith, common_steps)

pub first_match-best-requires-clause-reads : goal.first_match-best-requires-clause-reads
first_match-best-requires-clause-reads g c = grind (arith, common_steps)

pub first_match-best-requires-clause-matches : goal.first_match-best-requires-clause-matches
first_match-best-requires-clause-matches g c = grind (arith, common_steps)
