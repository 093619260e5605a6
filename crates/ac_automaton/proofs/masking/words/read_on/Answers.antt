-- It passes no place where an occurrence ends.
use Rattle.std.proofs.Common.{length, take, ap, subst, ◌∙◌, arith}
use Rattle.std.proofs.lemmas.Grind.{common_steps}
use Rattle.ac_input.specs.declared.search.Anchored.TheVariants.{No}
use Rattle.ac_input.proofs.lemmas.OrderLemmas.{slice_range-length}
use Rattle.ac_automaton.specs.Automaton.{AdvancesToMatch, IsReadCost}
use Rattle.ac_automaton.proofs.masking.words.CostLemmas.{reading-costs}
use Rattle.ac_automaton.proofs.masking.words.WordMaskLemmas.{reads-quietly, window-rest}
use Rattle.ac_automaton.proofs.masking.words.read_on.Goals as goal

pub returns-clause-reads : goal.returns-clause-reads
returns-clause-reads g c x is stands =
    let a = c.args.automaton.now in
    let R = g.A.Automaton.Reaches a No in
    let M = g.A.Automaton.matches a in
    let p = c.args.place.now in
    reads-quietly (g.A.Automaton.built a).dictionary R M c.requires.standard (g.met.A.Automaton.tells a No) stands
    c.advance_to_match-stop.result
    (subst (λ l. AdvancesToMatch R M p.sid l c.advance_to_match-stop.result) (window-rest is p.at c.requires.held stands.within)
    c.advance_to_match-stop.ensures.goes)

pub returns-clause-cost : goal.returns-clause-cost
returns-clause-cost g c x is stands =
    let a = c.args.automaton.now in
    let p = c.args.place.now in
    let stop = c.advance_to_match-stop.result in
    let rest = window-rest is p.at c.requires.held stands.within in
    let within = stands.within in
    let long = ap length rest ∙ slice_range-length x p.at {b = length x} within (omega arith) in
    let fits = c.advance_to_match-stop.ensures.goes.taken.0 in
    reading-costs (g.A.Automaton.built a) (g.A.Automaton.Reaches a) stands stop.taken (omega arith)
    (subst (λ l. IsReadCost (g.A.Automaton.built a) (g.A.Automaton.Reaches a) No p.sid (take stop.taken l) c.args.steps.now
    c.advance_to_match-stop.new.steps) rest c.advance_to_match-stop.ensures.cost)

pub returns-clause-further : goal.returns-clause-further
returns-clause-further g c = grind (arith, common_steps)

pub slice_bounds-left-count : goal.slice_bounds-left-count
slice_bounds-left-count g c = grind (arith, common_steps)

pub slice_bounds-left-start : goal.slice_bounds-left-start
slice_bounds-left-start g c = grind (arith, common_steps)

pub advance_to_match-stop-requires : goal.advance_to_match-stop-requires
advance_to_match-stop-requires g c = grind (arith, common_steps)
