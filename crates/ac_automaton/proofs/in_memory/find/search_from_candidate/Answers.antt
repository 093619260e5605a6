-- A walk from the prefilter's candidate is one from the place that the prefilter searched from.
use Rattle.std.proofs.lemmas.Grind.{common_steps}
use Rattle.std.proofs.Common.{ℕ, ◌-◌, ap, arith}
use Rattle.ac_input.specs.Input.{is_anchored}
use Rattle.ac_automaton.specs.Automaton.{kind_asked, prefilter_for, searched}
use Rattle.ac_automaton.specs.InMemory.Find.{come_by}
use Rattle.ac_input.specs.Occurrence.{starting_at}
use Rattle.ac_automaton.proofs.in_memory.find.CountedLemmas.{come-further, counted-join, scan-counts, walk-counts, walk-scans}
use Rattle.ac_automaton.proofs.in_memory.find.FindLemmas.{end_says-from, told_work-walk}
use Rattle.ac_automaton.proofs.in_memory.find.search_from_candidate.Goals as goal

pub returns-in-Idle-clause-says : goal.returns-in-Idle-clause-says
returns-in-Idle-clause-says g c =
    let b = g.A.Automaton.built c.args.automaton.now in
    let asked = c.args.input.now in
    let free = ap is_anchored (rw c.in-Some.is at c.requires.free) in
    end_says-from (kind_asked b asked) c.walk-in-Idle.result
    free c.in-Idle.ensures.says c.walk-in-Idle.ensures.says

pub returns-in-Idle-clause-work : goal.returns-in-Idle-clause-work
returns-in-Idle-clause-work g c =
    let b = g.A.Automaton.built c.args.automaton.now in
    let asked = c.args.input.now in
    let free = ap is_anchored (rw c.in-Some.is at c.requires.free) in
    told_work-walk (kind_asked b asked) b.deterministic c.walk-in-Idle.result _ c.in-Idle.ensures.says free
    c.in-Idle.ensures.work c.walk-in-Idle.ensures.says
    c.walk-in-Idle.ensures.work

pub returns-in_default-clause-counts : goal.returns-in_default-clause-counts
returns-in_default-clause-counts g c =
    let b = g.A.Automaton.built c.args.automaton.now in
    let asked = c.args.input.now in
    walk-counts (prefilter_for b asked.anchored) _ _ _
    (walk-scans _ _ (starting_at (searched b asked) c.args.at) c.walk.result _ _ c.walk.ensures.work)
    c.walk.ensures.looks

pub returns-in-Some-leaves-clause-counts : goal.returns-in-Some-leaves-clause-counts
returns-in-Some-leaves-clause-counts g c =
    let b = g.A.Automaton.built c.args.automaton.now in
    let asked = c.args.input.now in
    walk-counts (prefilter_for b asked.anchored) _ _ _
    (walk-scans _ _ (starting_at (searched b asked) c.args.at) c.walk-in-Some-leaves.result _ _
    c.walk-in-Some-leaves.ensures.work) c.walk-in-Some-leaves.ensures.looks

pub returns-in-Found-clause-counts : goal.returns-in-Found-clause-counts
returns-in-Found-clause-counts g c =
    let b = g.A.Automaton.built c.args.automaton.now in
    scan-counts b c.args.input.now.anchored c.in-Some.prefilter.now _ _ _ (rw c.in-Some.is at c.requires.free)
    (rw c.in-Some.is at c.requires.own) c.in-Found.ensures.work.looked c.in-Found.ensures.counts

pub returns-in-Idle-clause-counts : goal.returns-in-Idle-clause-counts
returns-in-Idle-clause-counts g c =
    let b = g.A.Automaton.built c.args.automaton.now in
    let asked = c.args.input.now in
    let s = starting_at (searched b asked) c.args.at in
    let filter = prefilter_for b asked.anchored in
    let place : ℕ = c.in-Idle.place in
    let later = c.walk-in-Idle in
    let scanned = scan-counts b asked.anchored c.in-Some.prefilter.now _ _ _ (rw c.in-Some.is at c.requires.free)
    (rw c.in-Some.is at c.requires.own) c.in-Idle.ensures.work.looked c.in-Idle.ensures.counts in
    let walked = walk-counts filter (come_by (starting_at (searched b asked) place) later.result - place)
    c.candidate.new.steps later.new.steps
    (walk-scans _ _ (starting_at (searched b asked) place) later.result _ _ later.ensures.work) later.ensures.looks in
    counted-join filter _ _ _ _ _ _ (come-further s place later.result) scanned walked

pub walk-requires-clause-starts : goal.walk-requires-clause-starts
walk-requires-clause-starts g c = grind (arith, common_steps)

pub walk-requires-clause-from : goal.walk-requires-clause-from
walk-requires-clause-from g c = grind (arith, common_steps)

pub walk-requires-clause-to : goal.walk-requires-clause-to
walk-requires-clause-to g c = grind (arith, common_steps)

pub returns-in_default-clause-says : goal.returns-in_default-clause-says
returns-in_default-clause-says g c = grind (arith, common_steps)

pub returns-in_default-clause-free : goal.returns-in_default-clause-free
returns-in_default-clause-free g c = grind (arith, common_steps)

pub returns-in_default-clause-work : goal.returns-in_default-clause-work
returns-in_default-clause-work g c = grind (arith, common_steps)

pub walk-requires-in-Some-leaves-clause-starts : goal.walk-requires-in-Some-leaves-clause-starts
walk-requires-in-Some-leaves-clause-starts g c = grind (arith, common_steps)

pub walk-requires-in-Some-leaves-clause-from : goal.walk-requires-in-Some-leaves-clause-from
walk-requires-in-Some-leaves-clause-from g c = grind (arith, common_steps)

pub walk-requires-in-Some-leaves-clause-to : goal.walk-requires-in-Some-leaves-clause-to
walk-requires-in-Some-leaves-clause-to g c = grind (arith, common_steps)

pub returns-in-Some-leaves-clause-says : goal.returns-in-Some-leaves-clause-says
returns-in-Some-leaves-clause-says g c = grind (arith, common_steps)

pub returns-in-Some-leaves-clause-free : goal.returns-in-Some-leaves-clause-free
returns-in-Some-leaves-clause-free g c = grind (arith, common_steps)

pub returns-in-Some-leaves-clause-work : goal.returns-in-Some-leaves-clause-work
returns-in-Some-leaves-clause-work g c = grind (arith, common_steps)

pub candidate-requires-clause-made : goal.candidate-requires-clause-made
candidate-requires-clause-made g c = grind (arith, common_steps)

pub candidate-requires-clause-free : goal.candidate-requires-clause-free
candidate-requires-clause-free g c = grind (arith, common_steps)

pub candidate-requires-clause-from : goal.candidate-requires-clause-from
candidate-requires-clause-from g c = grind (arith, common_steps)

pub candidate-requires-clause-to : goal.candidate-requires-clause-to
candidate-requires-clause-to g c = grind (arith, common_steps)

pub walk-requires-in-Idle-clause-starts : goal.walk-requires-in-Idle-clause-starts
walk-requires-in-Idle-clause-starts g c = grind (arith, common_steps)

pub walk-requires-in-Idle-clause-from : goal.walk-requires-in-Idle-clause-from
walk-requires-in-Idle-clause-from g c = grind (arith, common_steps)

pub walk-requires-in-Idle-clause-to : goal.walk-requires-in-Idle-clause-to
walk-requires-in-Idle-clause-to g c = grind (arith, common_steps)

pub returns-in-Found-clause-says : goal.returns-in-Found-clause-says
returns-in-Found-clause-says g c = grind (arith, common_steps)

pub returns-in-Found-clause-free : goal.returns-in-Found-clause-free
returns-in-Found-clause-free g c = grind (arith, common_steps)

pub returns-in-Idle-clause-free : goal.returns-in-Idle-clause-free
returns-in-Idle-clause-free g c = grind (arith, common_steps)
