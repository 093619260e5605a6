-- The next pick of the rest of the input is the walk's next pick.
use Rattle.std.proofs.Common.{rules, ◌+◌, ap, subst, sym, ◌∙◌, arith}
use Rattle.ac_automaton.specs.InMemory.Iter.{CountsWalk, IsOnItsWay, IsWithinBudget}
use Rattle.ac_automaton.proofs.in_memory.iter.IterLemmas.{given-none, given-some, idle-cost, past-none, past-some, pick-costs, pick-of_walk, picked-kept, rest-by}
use Rattle.ac_automaton.proofs.in_memory.iter.FindIter.next_counted.Goals as goal

pub returns-in-Some-clause-gives : goal.returns-in-Some-clause-gives
returns-in-Some-clause-gives g c =
    let picked = c.next_pick-found.ensures in (
      pick-of_walk c.self.view_is picked.pick,
      given-some c.add-2.new.self c.self.view_is c.in-Some.is
          (rest-by c.self.inside.input c.next_pick-found.new.input c.set_start.new.self c.end.result picked.asked
          c.set_start.ensures c.end.ensures.value) c.end-in-Some.ensures.value c.next-self-inside.ensures,
    )

pub returns-in-None-clause-gives : goal.returns-in-None-clause-gives
returns-in-None-clause-gives g c =
    let picked = c.next_pick-found.ensures in (
      pick-of_walk c.self.view_is picked.pick,
      given-none c.add-2.new.self c.self.view_is c.in-None.is
          (rest-by c.self.inside.input c.next_pick-found.new.input c.set_start-in-None.new.self _ picked.asked
          c.set_start-in-None.ensures
          (ap (λ n. n + 1) (c.end-in-None.ensures.value ∙ ap (λ input. input.span.end) picked.asked))),
    )

pub returns-in-Some-clause-cost : goal.returns-in-Some-clause-cost
returns-in-Some-clause-cost g c =
    let i = c.self.inside in
    let picked = c.next_pick-found.ensures in
    let b = g.A.Automaton.built i.automaton.now in
    let kept = picked-kept b c.next_pick-found.result c.self.invariant.1 (search rules) c.new-taken.ensures
    c.add-2.ensures picked.pick picked.work picked.counts c.self.invariant.2 c.self.invariant.3 in
    let rest = rest-by i.input c.next_pick-found.new.input c.set_start.new.self c.end.result picked.asked
    c.set_start.ensures c.end.ensures.value in
    let there = past-some b i.first.value i.input i.last i.given.value c.add-2.new.self c.next_pick-found.result c.in-Some.is
    rest c.end-in-Some.ensures.value c.next-self-inside.ensures in
    rw (← c.self.view_is)
    (pick-costs (search rules) c.self.invariant.1.begun (search rules) c.new-taken.ensures c.add.ensures
    (record { looked = c.add-2.ensures.looked; scanned = c.add-2.ensures.scanned; moved = c.add-2.ensures.moved })
    picked.work picked.counts c.self.invariant.3 (subst IsWithinBudget (sym there) kept.1))

pub returns-in-None-clause-cost : goal.returns-in-None-clause-cost
returns-in-None-clause-cost g c =
    let i = c.self.inside in
    let picked = c.next_pick-found.ensures in
    let b = g.A.Automaton.built i.automaton.now in
    let kept = picked-kept b c.next_pick-found.result c.self.invariant.1 (search rules) c.new-taken.ensures
    c.add-2.ensures picked.pick picked.work picked.counts c.self.invariant.2 c.self.invariant.3 in
    let rest = rest-by i.input c.next_pick-found.new.input c.set_start-in-None.new.self _ picked.asked
    c.set_start-in-None.ensures
    (ap (λ n. n + 1) (c.end-in-None.ensures.value ∙ ap (λ input. input.span.end) picked.asked)) in
    let there = past-none b i.first.value i.input i.last i.given.value c.add-2.new.self c.next_pick-found.result c.in-None.is
    rest in
    rw (← c.self.view_is)
    (pick-costs (search rules) c.self.invariant.1.begun (search rules) c.new-taken.ensures c.add.ensures
    (record { looked = c.add-2.ensures.looked; scanned = c.add-2.ensures.scanned; moved = c.add-2.ensures.moved })
    picked.work picked.counts c.self.invariant.3 (subst IsWithinBudget (sym there) kept.1))

pub returns-then-is_done-clause-cost : goal.returns-then-is_done-clause-cost
returns-then-is_done-clause-cost g c =
    rw (← c.self.view_is) (idle-cost _ (search rules) c.self.invariant.2 c.self.invariant.3)

-- what the walk keeps after a match
pub invariant_of-self : goal.invariant_of-self
invariant_of-self g c =
    let i = c.self.inside in
    let picked = c.next_pick-found.ensures in
    let b = g.A.Automaton.built i.automaton.now in
    let kept = picked-kept b c.next_pick-found.result c.self.invariant.1 (search rules) c.new-taken.ensures
    c.add-2.ensures picked.pick picked.work picked.counts c.self.invariant.2 c.self.invariant.3 in
    let rest = rest-by i.input c.next_pick-found.new.input c.set_start.new.self c.end.result picked.asked
    c.set_start.ensures c.end.ensures.value in
    let there = past-some b i.first.value i.input i.last i.given.value c.add-2.new.self c.next_pick-found.result c.in-Some.is
    rest c.end-in-Some.ensures.value c.next-self-inside.ensures in
    let all = subst (λ w. IsOnItsWay w × IsWithinBudget w × CountsWalk w) (sym there) kept in
    (subst (λ input. g.A.Automaton.supports i.automaton.now input.anchored) (sym rest) c.self.invariant.0, all.0, all.1, all.2)

-- and past the last one
pub invariant_of-self-in-None : goal.invariant_of-self-in-None
invariant_of-self-in-None g c =
    let i = c.self.inside in
    let picked = c.next_pick-found.ensures in
    let b = g.A.Automaton.built i.automaton.now in
    let kept = picked-kept b c.next_pick-found.result c.self.invariant.1 (search rules) c.new-taken.ensures
    c.add-2.ensures picked.pick picked.work picked.counts c.self.invariant.2 c.self.invariant.3 in
    let rest = rest-by i.input c.next_pick-found.new.input c.set_start-in-None.new.self _ picked.asked
    c.set_start-in-None.ensures
    (ap (λ n. n + 1) (c.end-in-None.ensures.value ∙ ap (λ input. input.span.end) picked.asked)) in
    let there = past-none b i.first.value i.input i.last i.given.value c.add-2.new.self c.next_pick-found.result c.in-None.is
    rest in
    let all = subst (λ w. IsOnItsWay w × IsWithinBudget w × CountsWalk w) (sym there) kept in
    (subst (λ input. g.A.Automaton.supports i.automaton.now input.anchored) (sym rest) c.self.invariant.0, all.0, all.1, all.2)
