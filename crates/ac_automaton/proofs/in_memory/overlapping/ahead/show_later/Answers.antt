-- What is shown where the walk ends, or stands in a state that matches, and its cost.
use Rattle.std.proofs.Common.{◌∙◌}
use Rattle.ac_automaton.specs.Ahead.{IsPaid}
use Rattle.ac_automaton.specs.declared.in_memory.find.cursor.End.TheVariants.{Found}
use Rattle.ac_automaton.proofs.lemmas.CandidateLemmas.{pays-walk}
use Rattle.ac_automaton.proofs.in_memory.find.CountedLemmas.{walk-counts}
use Rattle.ac_automaton.proofs.in_memory.overlapping.OverlappingAheadLemmas.{over-ahead, settles-none, shown-ahead, walked-paid}
use Rattle.ac_automaton.proofs.in_memory.overlapping.ShowLemmas.{HasShownEnd, walked-ends, walked-first, walked-over, walked-settled}
use Rattle.ac_automaton.proofs.in_memory.overlapping.ahead.show_later.Given.{Over}
use Rattle.ac_automaton.proofs.in_memory.overlapping.ahead.show_later.Goals as goal

pub loop-cursor-init : goal.loop-cursor-init
loop-cursor-init g c = record {
  walked = (
    c.args.steps.now,
    settles-none c.args.ahead.now c.args.steps.now,
    walked-first g.A.Automaton c.args.automaton.now c.args.input.now c.args.cursor _ c.requires.stands.cursor,
  );
  ahead = c.requires.ahead;
}

-- the walk came to the end of the span
over : (g : Over) (c : goal.After-over g)
    → HasShownEnd g.A.Automaton c.args.automaton.now c.args.input.now c.args.cursor (Found c.over.result)
    c.args.steps.now c.loop-cursor.invariant.walked.0
over g c =
    let a = c.args.automaton.now in
    walked-over g.A.Automaton a c.args.input.now c.args.cursor c.loop-cursor.cursor c.over.result _ _
    c.loop-cursor.invariant.walked.2 (c.if-cursor-end.true ∙ c.end.ensures.value) c.over.ensures.found
    c.over.ensures.place

pub returns-then-cursor-end-clause-shows : goal.returns-then-cursor-end-clause-shows
returns-then-cursor-end-clause-shows g c = (over g c).reads.0

pub returns-then-cursor-end-clause-paid : goal.returns-then-cursor-end-clause-paid
returns-then-cursor-end-clause-paid g c =
    let ended = over g c in
    let walked = c.loop-cursor.invariant.walked in (
      walked.0,
      walked.1,
      (
        pays-walk _ _ _ _ _ _ c.over.result _ _ c.requires.stands.cursor.within ended.reads.1 ended.pays ended.only,
        walk-counts _ _ _ _ ended.only.scanned ended.looks,
      ),
    )

pub returns-then-cursor-end-clause-ahead : goal.returns-then-cursor-end-clause-ahead
returns-then-cursor-end-clause-ahead g c =
    over-ahead g.A.Automaton c.args.automaton.now c.args.input.now c.loop-cursor.cursor c.over.result.place
    c.loop-cursor.ahead
    c.requires.stands.standard (c.if-cursor-end.true ∙ c.end.ensures.value) c.requires.stands.cursor.inside
    c.over.ensures.place c.loop-cursor.invariant.ahead

-- the walk has read on to a state that shows an occurrence
ended : (g : Over) (c : goal.In-Some g)
    → IsPaid c.args.ahead.now c.read_on-cursor.new.ahead c.read_on-cursor.new.steps
    (λ paid. HasShownEnd g.A.Automaton c.args.automaton.now c.args.input.now c.args.cursor (Found c.in-Some.shown)
    c.args.steps.now paid)
ended g c =
    let a = c.args.automaton.now in
    let asked = c.args.input.now in
    let next = c.read_on-cursor.result in
    let on = c.read_on-cursor.ensures in
    let walked = c.loop-cursor.invariant.walked in
    let had = walked-paid g.A.Automaton a asked c.args.cursor c.loop-cursor.cursor next _ _ _ _ walked.0 _ on.on.0 _
    c.requires.stands walked.2 walked.1 on.stands on.from on.on.2 on.on.1 in (
      had.0,
      had.1,
      walked-ends g.A.Automaton a asked c.args.cursor next (Found c.in-Some.shown) _ _ had.2 c.in-Some.ensures,
    )

pub returns-in-Some-clause-shows : goal.returns-in-Some-clause-shows
returns-in-Some-clause-shows g c = (ended g c).2.reads.0

pub returns-in-Some-clause-paid : goal.returns-in-Some-clause-paid
returns-in-Some-clause-paid g c =
    let all = ended g c in
    let there = all.2 in (
      all.0,
      all.1,
      (
        pays-walk _ _ _ _ _ _ c.in-Some.shown _ _ c.requires.stands.cursor.within there.reads.1 there.pays there.only,
        walk-counts _ _ _ _ there.only.scanned there.looks,
      ),
    )

pub returns-in-Some-clause-ahead : goal.returns-in-Some-clause-ahead
returns-in-Some-clause-ahead g c =
    shown-ahead g.A.Automaton c.args.automaton.now c.args.input.now c.read_on-cursor.result c.in-Some.shown.place
    c.read_on-cursor.new.ahead c.requires.free c.in-Some.ensures.1 c.read_on-cursor.ensures.ahead

pub loop-cursor-preserved : goal.loop-cursor-preserved
loop-cursor-preserved g c =
    let a = c.args.automaton.now in
    let asked = c.args.input.now in
    let next = c.read_on-cursor.result in
    let on = c.read_on-cursor.ensures in
    let walked = c.loop-cursor.invariant.walked in
    let had = walked-paid g.A.Automaton a asked c.args.cursor c.loop-cursor.cursor next _ _ _ _ walked.0 _ on.on.0 _
    c.requires.stands walked.2 walked.1 on.stands on.from on.on.2 on.on.1 in
    record {
      walked = (
        had.0,
        had.1,
        walked-settled g.A.Automaton a asked c.args.cursor next _ _ c.requires.stands.standard
            (g.met.A.Automaton.tells a asked.anchored _ next.sid on.stands.reads) c.in_default.ensures had.2,
      );
      ahead = on.ahead;
    }
