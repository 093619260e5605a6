-- No state that the walk passed matches, so no occurrence ends before the last one.
use Rattle.std.proofs.Common.{[], sym, ◌∙◌, arith}
use Rattle.std.proofs.lemmas.Bool.{false≢true}
use Rattle.ac_input.specs.declared.search.Anchored.TheVariants.{No}
use Rattle.example_callers.proofs.states.StateLemmas.{HasWalked, first-listed, start-reached, read-to, walked-first, walked-over}
use Rattle.example_callers.proofs.states.first_end.Goals as goal

pub returns-then-is_match : goal.returns-then-is_match
returns-then-is_match g c =
    let a = c.args.automaton.now in
    let x = c.args.text.now in
    let m = (g.A.Automaton.built a).dictionary in
    let start = c.unwrap-start.result in
    let begun = start-reached (g.A.Automaton.supports a) (g.A.Automaton.Reaches a) No c.start_state.result start
    c.start_state.ensures c.unwrap-start.ensures in
    first-listed m x 0 (g.A.Automaton.matches a start)
    (read-to m x 0 (g.A.Automaton.matches a start) (omega arith) c.requires.standard
    (g.met.A.Automaton.tells a No [] start begun))
    (c.is_match.ensures.0 c.if-is_match.true) (λ at earlier. absurd (omega arith))

pub is_match-requires-2 : goal.is_match-requires-2
is_match-requires-2 g c =
    let a = c.args.automaton.now in
    let start = c.unwrap-start.result in
    let begun = start-reached (g.A.Automaton.supports a) (g.A.Automaton.Reaches a) No c.start_state.result start
    c.start_state.ensures c.unwrap-start.ensures in
    ∣ (No, _, c.advance_to_match-end.ensures.goes.reads [] begun) ∣₁

pub returns-then-is_match-2 : goal.returns-then-is_match-2
returns-then-is_match-2 g c =
    let a = c.args.automaton.now in
    let x = c.args.text.now in
    let m = (g.A.Automaton.built a).dictionary in
    let start = c.unwrap-start.result in
    let end = c.advance_to_match-end.result in
    let begun = start-reached (g.A.Automaton.supports a) (g.A.Automaton.Reaches a) No c.start_state.result start
    c.start_state.ensures c.unwrap-start.ensures in
    let walked : HasWalked m x (g.A.Automaton.Reaches a No) (g.A.Automaton.matches a) start end.sid end.taken = record {
      standard = c.requires.standard;
      tells = λ front sid reads. g.met.A.Automaton.tells a No front sid reads;
      begun = begun;
      unmatched = λ some. false≢true (sym c.if-is_match.false ∙ c.is_match.ensures.1 some);
      within = c.advance_to_match-end.ensures.goes.taken.0;
      plain = c.advance_to_match-end.ensures.goes.plain;
      stands = c.advance_to_match-end.ensures.goes.reads;
    } in
    walked-first m x (g.A.Automaton.Reaches a No) (g.A.Automaton.matches a) start end.sid end.taken walked
    (c.is_match-2.ensures.0 c.if-is_match-2.true)

pub returns-else-is_match-2 : goal.returns-else-is_match-2
returns-else-is_match-2 g c =
    let a = c.args.automaton.now in
    let x = c.args.text.now in
    let m = (g.A.Automaton.built a).dictionary in
    let start = c.unwrap-start.result in
    let end = c.advance_to_match-end.result in
    let begun = start-reached (g.A.Automaton.supports a) (g.A.Automaton.Reaches a) No c.start_state.result start
    c.start_state.ensures c.unwrap-start.ensures in
    let walked : HasWalked m x (g.A.Automaton.Reaches a No) (g.A.Automaton.matches a) start end.sid end.taken = record {
      standard = c.requires.standard;
      tells = λ front sid reads. g.met.A.Automaton.tells a No front sid reads;
      begun = begun;
      unmatched = λ some. false≢true (sym c.if-is_match.false ∙ c.is_match.ensures.1 some);
      within = c.advance_to_match-end.ensures.goes.taken.0;
      plain = c.advance_to_match-end.ensures.goes.plain;
      stands = c.advance_to_match-end.ensures.goes.reads;
    } in
    walked-over m x (g.A.Automaton.Reaches a No) (g.A.Automaton.matches a) start end.sid end.taken walked
    (λ some. false≢true (sym c.if-is_match-2.false ∙ c.is_match-2.ensures.1 some))
    c.advance_to_match-end.ensures.goes.stops
