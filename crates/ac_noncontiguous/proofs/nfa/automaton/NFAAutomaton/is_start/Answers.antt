-- The test for a start: either start passes it, and no other state does.
use Rattle.std.proofs.Common.{◌≢◌, ◌+◌, sym, ap, ap₂, ◌∙◌, inl}
use Rattle.std.specs.Prelude.{◌==◌, ◌||◌}
use Rattle.std.proofs.lemmas.Bool.{ne_eqb, eq-eqb}
use Rattle.ac_automaton.proofs.automaton.TestLemmas.{start-has}
use Rattle.ac_noncontiguous.proofs.nfa.ReadLemmas.{start-said}
use Rattle.ac_noncontiguous.proofs.nfa.automaton.NFAAutomaton.is_start.Goals as goal

pub returns-then-at-start-clause-tells : goal.returns-then-at-start-clause-tells
returns-then-at-start-clause-tells c =
    let at = c.as_u32-at.ensures.value in
    let start = c.as_u32-start.ensures.value in
    let first = c.args.self.now.tables.start in
    let has = start-has c.args.sid first (first + 1) (inl (sym at ∙ (c.if-at-start.true ∙ start))) in
    start-said c.args.self.now (eq-eqb c.as_u32-at.result c.as_u32-start.result c.if-at-start.true ∙ sym has)

pub returns-else-at-start-clause-tells : goal.returns-else-at-start-clause-tells
returns-else-at-start-clause-tells c =
    let a = c.args.self.now in
    let at = c.as_u32-at.ensures.value in
    let start = c.as_u32-start.ensures.value in
    let other = c.if-at-start.false in
    let apart : c.args.sid ≢ a.tables.start = λ e. other (at ∙ (e ∙ sym start)) in
    start-said a
    (ap₂ (λ x y. x == y + 1) at start
    ∙ sym (ap (λ b. b || (c.args.sid == a.tables.start + 1)) (ne_eqb c.args.sid a.tables.start apart)))
