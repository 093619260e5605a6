-- No byte leads out of the dead state.
use Rattle.example_callers.proofs.nfa.lead_over.Goals as goal

pub loop-byte-preserved : goal.loop-byte-preserved
loop-byte-preserved c = (c.lead-at.ensures.met, λ dead. c.lead-at.ensures.dead (c.loop-byte.invariant.1 dead))
