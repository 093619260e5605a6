-- It stands right where it has read on to.
use Rattle.std.proofs.Common.{◌≡◌, ◌-◌, ◌≤◌, ℕ, List, length, take, slice_range, ap, subst, ◌∙◌, arith}
use Rattle.std.proofs.lemmas.Grind.{common_steps}
use Rattle.ac_input.specs.declared.search.Anchored.TheVariants.{No}
use Rattle.ac_input.proofs.lemmas.OrderLemmas.{slice_range-length}
use Rattle.ac_automaton.specs.Automaton.{AdvancesToMatch, IsReadCost}
use Rattle.ac_automaton.specs.Words.{HasSeen, IsWindowOf}
use Rattle.ac_automaton.proofs.words.FinalLemmas.{window-end}
use Rattle.ac_automaton.proofs.words.WordCostLemmas.{read-pays}
use Rattle.ac_automaton.proofs.words.WordPlaceLemmas.{held-at, read-stands, window-part}
use Rattle.ac_automaton.proofs.words.read_on.Given.{Over}
use Rattle.ac_automaton.proofs.words.read_on.Goals as goal
use Rattle.ac_automaton.proofs.words.read_on.Goals.{After-limit-end}

-- the limit lies within the text, and the window shows the part up to it
shows : (g : Over) (c : After-limit-end g) (x : List ℕ) → IsWindowOf c.args.window x
    → HasSeen (g.A.Automaton.built c.args.automaton.now).dictionary (g.A.Automaton.Reaches c.args.automaton.now No)
    c.args.window.from x c.args.place.now
    → (c.limit-end.result ≤ length x)
    × (slice_range c.args.window.bytes.now (c.args.place.now.at - c.args.window.from)
    (c.limit-end.result - c.args.window.from)
    ≡ slice_range x c.args.place.now.at c.limit-end.result)
shows g c x is seen =
    let further = c.limit-end.ensures.order in
    let size = window-end is in
    let held = held-at seen.place in
    let order = seen.place.order in
    (omega arith, window-part is c.args.place.now.at c.limit-end.result (omega arith) (omega arith))

pub returns-clause-stands : goal.returns-clause-stands
returns-clause-stands g c x is seen =
    let a = c.args.automaton.now in
    let R = g.A.Automaton.Reaches a No in
    let M = g.A.Automaton.matches a in
    let part = shows g (goal.at.returns-clause-stands g c).After-limit-end x is seen in
    read-stands (g.A.Automaton.built a).dictionary R M c.requires.standard (g.met.A.Automaton.tells a No) is seen
    c.limit-end.result c.limit-end.ensures.order.0 part.0
    (λ o best. ((c.requires.open o best).leftmost, c.limit-end.ensures.near o best))
    c.advance_to_match-stop.result
    (subst (λ l. AdvancesToMatch R M c.args.place.now.sid l c.advance_to_match-stop.result) part.1
    c.advance_to_match-stop.ensures.goes)

pub returns-clause-cost : goal.returns-clause-cost
returns-clause-cost g c x is seen =
    let a = c.args.automaton.now in
    let p = c.args.place.now in
    let end = c.limit-end.result in
    let further = c.limit-end.ensures.order in
    let part = shows g (goal.at.returns-clause-cost g c).After-limit-end x is seen in
    let inside = part.0 in
    let long = ap length part.1 ∙ slice_range-length x p.at (omega arith) inside in
    let fits = c.advance_to_match-stop.ensures.goes.taken.0 in
    read-pays (g.A.Automaton.built a) (g.A.Automaton.Reaches a) seen.place end c.advance_to_match-stop.result.taken
    (omega arith) inside (omega arith)
    (subst (λ l. IsReadCost (g.A.Automaton.built a) (g.A.Automaton.Reaches a) No p.sid
    (take c.advance_to_match-stop.result.taken l) c.args.steps.now c.advance_to_match-stop.new.steps) part.1
    c.advance_to_match-stop.ensures.cost)

pub limit-end-requires-clause-more : goal.limit-end-requires-clause-more
limit-end-requires-clause-more g c = grind (arith, common_steps)

pub advance_to_match-stop-requires : goal.advance_to_match-stop-requires
advance_to_match-stop-requires g c = grind (arith, common_steps)
