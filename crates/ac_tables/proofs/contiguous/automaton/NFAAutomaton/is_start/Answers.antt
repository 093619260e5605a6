-- The test for a start: either start passes it, and no other state does.
use Rattle.std.proofs.Common.{◌≡◌, inl, ap, ap₂, sym, subst, ◌∙◌}
use Rattle.std.specs.Prelude.{◌==◌, ◌||◌}
use Rattle.std.proofs.lemmas.Bool.{eq-eqb, ne_eqb}
use Rattle.ac_automaton.specs.Automaton.{TellsStart}
use Rattle.ac_automaton.proofs.automaton.NamedLemmas.{read-starts}
use Rattle.ac_tables.specs.Contiguous.Reads.{contiguous_built_as, contiguous_matches_at, IsContiguousRead, contiguous_named_states}
use Rattle.ac_tables.proofs.contiguous.NameLemmas.{names-are}
use Rattle.ac_automaton.proofs.automaton.TestLemmas.{start-has}
use Rattle.ac_tables.proofs.contiguous.automaton.NFAAutomaton.is_start.Goals as goal

pub returns-then-at-as_u32-clause-tells : goal.returns-then-at-as_u32-clause-tells
returns-then-at-as_u32-clause-tells c =
    let a = c.args.self.now in
    let is = start-has c.args.sid a.table.start a.table.start_anchored
    (inl (sym c.as_u32-at.ensures.value ∙ (c.if-at-as_u32.true ∙ c.as_u32.ensures.value))) in
    subst (TellsStart (contiguous_built_as a) (IsContiguousRead a) (contiguous_matches_at a) c.args.sid)
    (is ∙ sym (eq-eqb c.as_u32-at.result c.as_u32.result c.if-at-as_u32.true))
    (read-starts (contiguous_named_states a) c.args.sid (names-are a))

pub returns-else-at-as_u32-clause-tells : goal.returns-else-at-as_u32-clause-tells
returns-else-at-as_u32-clause-tells c =
    let a = c.args.self.now in
    let other = ne_eqb c.args.sid a.table.start
    (λ e. c.if-at-as_u32.false (c.as_u32-at.ensures.value ∙ (e ∙ sym c.as_u32.ensures.value))) in
    let same : (c.args.sid == a.table.start_anchored) ≡ (c.as_u32-at.result == c.as_u32-else-at-as_u32.result) =
    ap₂ (λ x y. x == y) (sym c.as_u32-at.ensures.value) (sym c.as_u32-else-at-as_u32.ensures.value) in
    subst (TellsStart (contiguous_built_as a) (IsContiguousRead a) (contiguous_matches_at a) c.args.sid)
    (ap (λ b. b || (c.args.sid == a.table.start_anchored)) other ∙ same)
    (read-starts (contiguous_named_states a) c.args.sid (names-are a))
