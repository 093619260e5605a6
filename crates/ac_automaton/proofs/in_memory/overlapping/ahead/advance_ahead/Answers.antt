-- Where the search is over, nothing is read.
use Rattle.ac_automaton.proofs.in_memory.overlapping.OverlappingAheadLemmas.{over-costs, settles-none}
use Rattle.ac_automaton.proofs.in_memory.overlapping.ahead.advance_ahead.Goals as goal

pub returns-in-Over-clause-paid : goal.returns-in-Over-clause-paid
returns-in-Over-clause-paid g c = (
  c.args.steps.now,
  settles-none c.args.ahead.now c.args.steps.now,
  over-costs (g.A.Automaton.built c.args.automaton.now) c.args.input.now c.args.place c.over.result c.args.steps.now
      c.in-Over.is c.over.ensures.place,
)
