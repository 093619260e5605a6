-- A few bytes are read alone, and then, where no state has matched, one part of the others after another.
use Rattle.std.proofs.Common.{◌≡◌, drop, false, sym, ◌∙◌, arith}
use Rattle.std.proofs.lemmas.Grind.{common_steps}
use Rattle.std.proofs.lemmas.Bool.{false≢true}
use Rattle.std.proofs.lemmas.List.{drop-drop}
use Rattle.ac_input.specs.declared.search.Anchored.TheVariants.{No}
use Rattle.ac_automaton.specs.Automaton.{is_matching}
use Rattle.ac_automaton.proofs.ahead.AheadLemmas.{ahead-elsewhere, ahead-noticed, matched-is}
use Rattle.ac_automaton.proofs.ahead.PartLemmas.{advances-on, cost-on}
use Rattle.ac_automaton.proofs.lemmas.CursorLemmas.{HasAdvanced, reached-on, reached-state}
use Rattle.ac_automaton.proofs.skip.ReadOnLemmas.{part-goes}
use Rattle.ac_automaton.proofs.ahead.advance_to_match.Given.{Over}
use Rattle.ac_automaton.proofs.ahead.advance_to_match.Goals as goal

pub is_match-requires : goal.is_match-requires
is_match-requires g c =
    let R = g.A.Automaton.Reaches c.args.automaton.now in
    reached-state R No c.read_alone-stop.result.sid
    (reached-on (R No) c.args.sid _ c.read_alone-stop.result.sid c.requires.reached c.read_alone-stop.ensures.reads)

pub returns-then-is_match-clause-ahead : goal.returns-then-is_match-clause-ahead
returns-then-is_match-clause-ahead g c =
    ahead-noticed _ (ahead-elsewhere c.args.anew.now _ _ (c.is_alone.ensures c.if-not-is_alone.false) c.requires.ahead)

pub advance_by_parts-rest-requires-clause-reached : goal.advance_by_parts-rest-requires-clause-reached
advance_by_parts-rest-requires-clause-reached g c =
    reached-on (g.A.Automaton.Reaches c.args.automaton.now No) c.args.sid _ c.read_alone-stop.result.sid
    c.requires.reached c.read_alone-stop.ensures.reads

pub advance_by_parts-rest-requires-clause-ahead : goal.advance_by_parts-rest-requires-clause-ahead
advance_by_parts-rest-requires-clause-ahead g c =
    ahead-noticed _ (ahead-elsewhere c.args.anew.now _ _ (c.is_alone.ensures c.if-not-is_alone.false) c.requires.ahead)

-- the few bytes were passed
passed : (g : Over) (c : goal.After-struct_known-4-1 g)
    → HasAdvanced (g.A.Automaton.built c.args.automaton.now) (g.A.Automaton.Reaches c.args.automaton.now) No
    (is_matching (g.A.Automaton.matches c.args.automaton.now)) c.args.sid (drop c.args.from c.args.bytes.now)
    c.read_alone-stop.result.taken c.read_alone-stop.result.sid c.args.steps.now c.read_alone-stop.new.steps
passed g c =
    let a = c.args.automaton.now in
    let M = g.A.Automaton.matches a in
    let quiet : is_matching M c.read_alone-stop.result.sid ≡ false =
    sym (matched-is M c.is_match.result c.is_match.ensures) ∙ c.if-is_match.false in
    part-goes (g.A.Automaton.built a) (g.A.Automaton.Reaches a) No (is_matching M) c.args.sid
    (drop c.args.from c.args.bytes.now) c.read_alone-stop.result _ _ c.read_alone-stop.ensures
    (λ e. false≢true (sym quiet ∙ e))

pub returns-clause-goes : goal.returns-clause-goes
returns-clause-goes g c =
    advances-on (drop c.args.from c.args.bytes.now) _ (sym (drop-drop _ c.args.from c.args.bytes.now))
    c.read_alone-stop.ensures.some c.read_alone-stop.ensures.within (passed g c) c.advance_by_parts-rest.ensures.goes

pub returns-clause-cost : goal.returns-clause-cost
returns-clause-cost g c =
    let rest = c.advance_by_parts-rest.ensures in (
      rest.cost.0,
      record { looked = rest.cost.1.looked; scanned = rest.cost.1.scanned; moved = rest.cost.1.moved },
      cost-on (drop c.args.from c.args.bytes.now) _ (sym (drop-drop _ c.args.from c.args.bytes.now))
          c.read_alone-stop.ensures.some c.read_alone-stop.ensures.within (passed g c) rest.goes rest.cost.2,
    )

pub overflow_add-at : goal.overflow_add-at
overflow_add-at g c = grind (arith, common_steps)

pub overflow_add-result : goal.overflow_add-result
overflow_add-result g c = grind (arith, common_steps)

pub returns-clause-ahead : goal.returns-clause-ahead
returns-clause-ahead g c = grind (arith, common_steps)
