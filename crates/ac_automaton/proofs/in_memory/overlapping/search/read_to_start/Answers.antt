-- What is shown where the walk ends, or is back at the start, and its cost.
use Rattle.std.proofs.Common.{◌∙◌}
use Rattle.ac_automaton.specs.declared.in_memory.find.cursor.End.TheVariants.{Found}
use Rattle.ac_automaton.proofs.in_memory.overlapping.ShowLemmas.{HasShownEnd, walked-first, walked-further, walked-settled, walked-over, walked-ends}
use Rattle.ac_automaton.proofs.in_memory.overlapping.search.read_to_start.Given.{Over}
use Rattle.ac_automaton.proofs.in_memory.overlapping.search.read_to_start.Goals as goal

pub loop-cursor-init : goal.loop-cursor-init
loop-cursor-init g c =
    walked-first g.A.Automaton c.args.automaton.now c.args.input.now c.args.cursor _ c.requires.cursor

-- the walk came to the end of the span
over : (g : Over) (c : goal.After-over g)
    → HasShownEnd g.A.Automaton c.args.automaton.now c.args.input.now c.args.cursor (Found c.over.result)
    c.args.steps.now c.loop-cursor.steps
over g c =
    let a = c.args.automaton.now in
    walked-over g.A.Automaton a c.args.input.now c.args.cursor c.loop-cursor.cursor c.over.result _ _
    c.loop-cursor.invariant (c.if-cursor-end.true ∙ c.end.ensures.value) c.over.ensures.found c.over.ensures.place

pub returns-then-cursor-end-clause-reads : goal.returns-then-cursor-end-clause-reads
returns-then-cursor-end-clause-reads g c = (over g c).reads

pub returns-then-cursor-end-clause-pays : goal.returns-then-cursor-end-clause-pays
returns-then-cursor-end-clause-pays g c = (over g c).pays

pub returns-then-cursor-end-clause-looks : goal.returns-then-cursor-end-clause-looks
returns-then-cursor-end-clause-looks g c = (over g c).looks

-- the walk ended at a state
ended : (g : Over) (c : goal.In-Some g)
    → HasShownEnd g.A.Automaton c.args.automaton.now c.args.input.now c.args.cursor c.in-Some.end c.args.steps.now
    c.read_on-cursor.new.steps
ended g c =
    let a = c.args.automaton.now in
    let asked = c.args.input.now in
    let next = c.read_on-cursor.result in
    let on = c.read_on-cursor.ensures in
    let had = walked-further next _ c.requires
    c.loop-cursor.invariant on.stands on.from on.on in
    walked-ends g.A.Automaton a asked c.args.cursor next c.in-Some.end _ _ had c.in-Some.ensures

pub returns-in-Some-clause-reads : goal.returns-in-Some-clause-reads
returns-in-Some-clause-reads g c = (ended g c).reads

pub returns-in-Some-clause-pays : goal.returns-in-Some-clause-pays
returns-in-Some-clause-pays g c = (ended g c).pays

pub returns-in-Some-clause-only : goal.returns-in-Some-clause-only
returns-in-Some-clause-only g c = (ended g c).only

pub returns-in-Some-clause-looks : goal.returns-in-Some-clause-looks
returns-in-Some-clause-looks g c = (ended g c).looks

pub loop-cursor-preserved : goal.loop-cursor-preserved
loop-cursor-preserved g c =
    let a = c.args.automaton.now in
    let asked = c.args.input.now in
    let next = c.read_on-cursor.result in
    let on = c.read_on-cursor.ensures in
    let had = walked-further next _ c.requires
    c.loop-cursor.invariant on.stands on.from on.on in
    walked-settled g.A.Automaton a asked c.args.cursor next _ _ c.requires.standard
    (g.met.A.Automaton.tells a asked.anchored _ next.sid on.stands.reads) c.in_default.ensures had
