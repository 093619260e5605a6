-- Each start state may be met by the searches that begin there.
use Rattle.example_callers.proofs.nfa.NfaLemmas.{anchored-met, unanchored-met}
use Rattle.example_callers.proofs.nfa.start_of.Goals as goal

pub returns-in-No : goal.returns-in-No
returns-in-No c =
    rw (c.special-special.ensures.value, c.in-No.is)
    (unanchored-met c.args.nfa.now (rw c.special-special.ensures.value at c.special-special.ensures.order))

pub returns-in-Yes : goal.returns-in-Yes
returns-in-Yes c =
    rw (c.special-special.ensures.value, c.in-Yes.is)
    (anchored-met c.args.nfa.now (rw c.special-special.ensures.value at c.special-special.ensures.order))
