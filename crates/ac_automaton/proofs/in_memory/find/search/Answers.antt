-- The best match from the place that the search has come to is the best of all.
use Rattle.std.proofs.Common.{ap, refl}
use Rattle.ac_input.specs.Input.{is_anchored}
use Rattle.ac_automaton.specs.Automaton.{kind_asked, prefilter_for, searched}
use Rattle.ac_automaton.specs.declared.in_memory.find.cursor.End.TheVariants.{Found, Idle}
use Rattle.ac_automaton.proofs.in_memory.find.CountedLemmas.{come-further, counted-join}
use Rattle.ac_automaton.proofs.in_memory.find.FindLemmas.{find_work-from, has_come-best, has_come-further}
use Rattle.ac_automaton.proofs.in_memory.find.search.Goals as goal

pub returns-in-Found-clause-found : goal.returns-in-Found-clause-found
returns-in-Found-clause-found g c =
    let b = g.A.Automaton.built c.args.automaton.now in
    let asked = c.args.input.now in
    has_come-best (kind_asked b asked) c.in-Found.found
    c.loop-found.invariant.0 c.in-Found.ensures.says

pub returns-in-Found-clause-cost : goal.returns-in-Found-clause-cost
returns-in-Found-clause-cost g c =
    let b = g.A.Automaton.built c.args.automaton.now in
    let asked = c.args.input.now in
    record {
      work = find_work-from c.loop-found.invariant.0.goes_on c.in-Found.ensures.says c.loop-found.invariant.0.work
          c.in-Found.ensures.work;
      counted = counted-join (prefilter_for b asked.anchored) _ _ _ _ _ _
          (come-further (searched b asked) c.loop-found.at (Found c.in-Found.found)) c.loop-found.invariant.1
          c.in-Found.ensures.counts;
    }

pub loop-found-preserved : goal.loop-found-preserved
loop-found-preserved g c =
    let b = g.A.Automaton.built c.args.automaton.now in
    let asked = c.args.input.now in
    let free = ap is_anchored (c.in-Idle.ensures.free c.in-Idle.place refl) in (
      has_come-further (kind_asked b asked) c.in-Idle.place _
          free c.loop-found.invariant.0 c.in-Idle.ensures.says c.in-Idle.ensures.work,
      counted-join (prefilter_for b asked.anchored) _ _ _ _ _ _
          (come-further (searched b asked) c.loop-found.at (Idle c.in-Idle.place)) c.loop-found.invariant.1
          c.in-Idle.ensures.counts,
    )
