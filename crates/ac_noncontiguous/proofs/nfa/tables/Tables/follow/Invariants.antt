use Rattle.ac_noncontiguous.specs.Nfa.{kept_of}
use Rattle.ac_noncontiguous.proofs.nfa.NextLemmas.{HasFollowed}
use Rattle.ac_noncontiguous.proofs.nfa.tables.Tables.follow.Given as goal

abbrev pub invariant-loop-next : goal.invariant-loop-next
invariant-loop-next l = HasFollowed l.self l.fn.sid l.byte l.from l.initial.steps l.steps

abbrev pub decreases-loop-next : goal.decreases-loop-next
decreases-loop-next l = (kept_of l.self.states.items l.from).depth
