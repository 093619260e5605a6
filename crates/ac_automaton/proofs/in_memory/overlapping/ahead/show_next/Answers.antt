-- What the state has to show is the first of what is left.
use Rattle.std.proofs.Common.{inr, refl}
use Rattle.ac_automaton.specs.Automaton.{searched}
use Rattle.ac_automaton.proofs.in_memory.overlapping.OverlappingAheadLemmas.{settles-none, shown-ahead, shown-costs}
use Rattle.ac_automaton.proofs.in_memory.overlapping.OverlappingReadLemmas.{shows-some}
use Rattle.ac_automaton.proofs.in_memory.overlapping.ahead.show_next.Goals as goal

pub returns-in-Some-clause-shows : goal.returns-in-Some-clause-shows
returns-in-Some-clause-shows g c =
    let a = c.args.automaton.now in
    let b = g.A.Automaton.built a in
    let asked = c.args.input.now in
    shows-some (g.A.Automaton.Reaches a asked.anchored) (g.A.Automaton.matches a) b.dictionary (searched b asked) _
    c.args.cursor.now c.args.from c.in-Some.shown c.requires.stands.cursor refl c.in-Some.ensures

pub returns-in-Some-clause-paid : goal.returns-in-Some-clause-paid
returns-in-Some-clause-paid g c = (
  c.args.steps.now,
  settles-none c.args.ahead.now c.args.steps.now,
  shown-costs (g.A.Automaton.built c.args.automaton.now) c.args.input.now c.args.cursor.now c.args.from
      c.in-Some.ensures.1 c.in-Some.shown c.args.steps.now c.in-Some.ensures.3,
)

pub returns-in-Some-clause-ahead : goal.returns-in-Some-clause-ahead
returns-in-Some-clause-ahead g c =
    shown-ahead g.A.Automaton c.args.automaton.now c.args.input.now c.args.cursor.now c.in-Some.shown.place
    c.args.ahead.now c.requires.free (inr (c.in-Some.ensures.1, c.in-Some.ensures.3)) c.requires.ahead
