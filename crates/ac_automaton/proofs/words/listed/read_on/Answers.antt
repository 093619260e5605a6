-- It stands right where it has read on to.
use Rattle.std.proofs.Common.{◌≡◌, ◌-◌, length, take, drop, slice_range, sym, ap, subst, ◌∙◌, arith, length-drop}
use Rattle.std.proofs.lemmas.Grind.{common_steps}
use Rattle.std.proofs.lemmas.List.{take_all}
use Rattle.ac_input.specs.declared.search.Anchored.TheVariants.{No}
use Rattle.ac_automaton.specs.Automaton.{AdvancesToMatch, IsReadCost}
use Rattle.ac_automaton.proofs.words.FinalLemmas.{window-end}
use Rattle.ac_automaton.proofs.words.WordCostLemmas.{bytes-pay}
use Rattle.ac_automaton.proofs.words.listed.ListedWordLemmas.{from-first, listed-further, listed-held, window-rest}
use Rattle.ac_automaton.proofs.words.listed.read_on.Goals as goal

pub returns-clause-stands : goal.returns-clause-stands
returns-clause-stands g c x given stands =
    let a = c.args.automaton.now in
    let m = (g.A.Automaton.built a).dictionary in
    let R = g.A.Automaton.Reaches a No in
    let M = g.A.Automaton.matches a in
    let p = c.args.place.now in
    let end = window-end stands.0 in
    let more = c.requires.more in
    let held = listed-held m R M c.requires.standard (g.met.A.Automaton.tells a No) stands.1 in (
      stands.0,
      listed-further m R M c.requires.standard (g.met.A.Automaton.tells a No) stands.1 c.requires.told (omega arith)
          c.advance_to_match-stop.result
          (subst (λ l. AdvancesToMatch R M p.sid l c.advance_to_match-stop.result) (window-rest stands.0 p.at held)
          c.advance_to_match-stop.ensures.goes),
    )

pub returns-clause-cost : goal.returns-clause-cost
returns-clause-cost g c x given stands =
    let a = c.args.automaton.now in
    let b = g.A.Automaton.built a in
    let p = c.args.place.now in
    let stop = c.advance_to_match-stop.result in
    let within = stands.1.within in
    let held = listed-held b.dictionary (g.A.Automaton.Reaches a No) (g.A.Automaton.matches a) c.requires.standard
    (g.met.A.Automaton.tells a No) stands.1 in
    let size = length-drop p.at x in
    let rest = window-rest stands.0 p.at held in
    let part : slice_range c.args.window.bytes.now (p.at - c.args.window.from) (length c.args.window.bytes.now)
    ≡ slice_range x p.at (length x) =
    rest ∙ sym (take_all (length x - p.at) (drop p.at x) (omega arith)) in
    let long = ap length rest in
    let fits = c.advance_to_match-stop.ensures.goes.taken.0 in
    bytes-pay b (g.A.Automaton.Reaches a) x 0 p.at (length x) stop.taken (omega arith) within (omega arith) (omega arith)
    (subst (λ l. g.A.Automaton.Reaches a No l p.sid) (from-first x p.at) stands.1.reads)
    (subst (λ l. IsReadCost b (g.A.Automaton.Reaches a) No p.sid (take stop.taken l) c.args.steps.now
    c.advance_to_match-stop.new.steps) part c.advance_to_match-stop.ensures.cost)

pub advance_to_match-stop-requires : goal.advance_to_match-stop-requires
advance_to_match-stop-requires g c = grind (arith, common_steps)
