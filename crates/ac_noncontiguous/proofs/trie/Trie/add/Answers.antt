-- One more pattern makes the trie that of the dictionary with one more pattern.
use Rattle.std.proofs.Common.{arith}
use Rattle.std.proofs.lemmas.Result.{IfOk-weaker, err_from_is_err_and}
use Rattle.ac_noncontiguous.proofs.trie.TrieLemmas.{trie-entered, trie-left_out}
use Rattle.ac_noncontiguous.proofs.trie.StuckLemmas.{trie-stuck}
use Rattle.ac_noncontiguous.proofs.trie.Trie.add.Goals as goal

pub returns-in-Some-clause-added : goal.returns-in-Some-clause-added
returns-in-Some-clause-added c =
    IfOk-weaker c.note_end-in-Some.result _ _
    (λ _ n m t. trie-entered c.args.pattern.now t (omega arith) (rw c.in-Some.is at c.in_ok-enter.ensures.ended)
    c.in_ok-enter.ensures.rest c.mark.ensures.marked c.mark.ensures.rest n)
    c.note_end-in-Some.ensures.noted

pub returns-in-None-clause-added : goal.returns-in-None-clause-added
returns-in-None-clause-added c =
    IfOk-weaker c.note_end.result _ _
    (λ _ n m t. trie-left_out c.args.pattern.now t (omega arith) (rw c.in-None.is at c.in_ok-enter.ensures.ended)
    c.in_ok-enter.ensures.rest n)
    c.note_end.ensures.noted

pub returns-in_err-enter-clause-refused : goal.returns-in_err-enter-clause-refused
returns-in_err-enter-clause-refused c =
    let p = err_from_is_err_and c.from_residual.result c.from_residual.ensures.1 in
    rw (p.1, p.2)
    (λ m t. trie-stuck c.args.pattern.now c.in_err-enter.field-0.0 t (omega arith) (omega arith)
    c.in_err-enter.ensures.stuck)
