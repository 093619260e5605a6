-- The transitions of one state after another are appended.
use Rattle.std.proofs.Common.{◌≡◌, ◌∷◌, ◌++◌, [], ◌+◌, length, subst, sym, ap, ◌∙◌, arith, rules}
use Rattle.std.proofs.lemmas.Grind.{common_steps}
use Rattle.std.proofs.lemmas.Result.{err_from_is_err_and}
use Rattle.ac_noncontiguous.specs.Compiler.Layout.{AreLaidOut}
use Rattle.ac_noncontiguous.proofs.compiler.LayoutLemmas.{laid-more}
use Rattle.ac_noncontiguous.proofs.compiler.transitions.Transitions.new.Goals as goal

pub loop-state-preserved : goal.loop-state-preserved
loop-state-preserved c =
    let old = c.loop-state.offsets.items in
    let transitions = c.push_state.new.transitions.items in
    let len : c.len.result ≡ length transitions = omega (arith, c.len.ensures) in
    let pushed : c.push-in-loop-state.new.self.items ≡ old ++ length transitions ∷ [] = c.in_ok-push-2.ensures.items
    ∙ ap (λ n. old ++ n ∷ []) len in
    subst (λ xs. AreLaidOut c.args.trie.now c.args.numbering.now c.args.back (c.loop-state.state + 1) xs transitions)
    (sym pushed)
    (laid-more c.loop-state.invariant c.in_ok-push_state.ensures)

pub loop-state-init : goal.loop-state-init
loop-state-init c = grind (arith, common_steps)

pub returns-in_err-push-2 : goal.returns-in_err-push-2
returns-in_err-push-2 c = grind (arith, common_steps)

pub returns-in_err-push_state : goal.returns-in_err-push_state
returns-in_err-push_state c =
    let p = err_from_is_err_and c.from_residual-in_err-push_state.result c.from_residual-in_err-push_state.ensures.1 in
    rw p.1 (search rules)

pub returns : goal.returns
returns c =
    subst (λ n. AreLaidOut c.args.trie.now c.args.numbering.now c.args.back n c.loop-state.offsets.items
    c.loop-state.transitions.items)
    (omega arith) c.loop-state.invariant
