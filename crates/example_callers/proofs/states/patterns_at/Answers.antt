-- Each turn adds a pattern, and a state that matches nothing has none.
use Rattle.std.proofs.Common.{◌≡◌, ℕ, suc, ◌+◌, List, [], ◌∷◌, ◌++◌, take, ap, sym, ◌∙◌, arith}
use Rattle.std.proofs.lemmas.Bool.{false≢true}
use Rattle.ac_automaton.proofs.lemmas.CursorLemmas.{take-more}
use Rattle.example_callers.proofs.states.StateLemmas.{list-none}
use Rattle.example_callers.proofs.states.patterns_at.Goals as goal

pub returns-then-not-is_match : goal.returns-then-not-is_match
returns-then-not-is_match g c =
    let none = list-none (g.A.Automaton.matches c.args.automaton.now c.args.sid)
    (λ some. false≢true (sym c.if-not-is_match.true ∙ c.is_match.ensures.1 some)) in
    c.new-patterns.ensures.items ∙ sym none

pub loop-index-preserved : goal.loop-index-preserved
loop-index-preserved g c =
    let all = g.A.Automaton.matches c.args.automaton.now c.args.sid in
    let i : ℕ = c.loop-index.index in
    let next : suc i ≡ i + 1 = omega arith in
    c.in_ok-push.ensures.items
    ∙ ap (λ ns. ns ++ c.match_pattern.result ∷ []) c.loop-index.invariant
    ∙ sym (take-more all i c.match_pattern.result c.match_pattern.ensures.value)
    ∙ ap (λ n. take n all) next
