-- The next pick of the rest of the input is the walk's next pick.
use Rattle.std.proofs.Common.{rules, ◌+◌, min, add-zero, ap, subst, sym, take, ◌∙◌}
use Rattle.ac_automaton.specs.InMemory.Iter.{CountsWalk, IsOnItsWay, IsWithinBudget, IsWithinBudgetAhead}
use Rattle.ac_automaton.specs.Ahead.{IsReadOnceFrom, less_ahead}
use Rattle.ac_automaton.specs.InMemory.Find.Ahead.{ReadsAheadFrom}
use Rattle.ac_automaton.proofs.in_memory.iter.IterLemmas.{after_pick, given-none, given-some, past-none, past-some, pick-of_walk, rest-by}
use Rattle.ac_automaton.proofs.in_memory.iter.WalkAheadLemmas.{picked-ahead, picked-reads, picked-stands, rest-is, walk-ahead}
use Rattle.ac_automaton.proofs.in_memory.iter.ahead.FindIterAhead.next_counted.Goals as goal

pub returns-in-Some-clause-gives : goal.returns-in-Some-clause-gives
returns-in-Some-clause-gives g c =
    let picked = c.next_pick_ahead-found.ensures in (
      pick-of_walk c.self.view_is picked.pick,
      given-some c.add-2.new.self c.self.view_is c.in-Some.is
          (rest-by c.self.inside.input c.next_pick_ahead-found.new.input c.set_start.new.self c.end.result picked.asked
          c.set_start.ensures c.end.ensures.value) c.end-in-Some.ensures.value c.next-self-inside.ensures,
    )

pub returns-in-None-clause-gives : goal.returns-in-None-clause-gives
returns-in-None-clause-gives g c =
    let picked = c.next_pick_ahead-found.ensures in (
      pick-of_walk c.self.view_is picked.pick,
      given-none c.add-2.new.self c.self.view_is c.in-None.is
          (rest-by c.self.inside.input c.next_pick_ahead-found.new.input c.set_start-in-None.new.self _ picked.asked
          c.set_start-in-None.ensures
          (ap (λ n. n + 1) (c.end-in-None.ensures.value ∙ ap (λ input. input.span.end) picked.asked))),
    )

pub returns-in-Some-clause-cost : goal.returns-in-Some-clause-cost
returns-in-Some-clause-cost g c =
    let i = c.self.inside in
    let picked = c.next_pick_ahead-found.ensures in
    let b = g.A.Automaton.built i.automaton.now in
    let real = picked-ahead g.A.Automaton i.automaton.now i.start i.first.value i.input i.last i.given.value
    c.next_pick_ahead-found.result i.sums c.add-2.new.self c.new-taken.result c.next_pick_ahead-found.new.steps
    picked.paid.0 i.ahead c.next_pick_ahead-found.new.ahead
    (record {
      way = c.self.invariant.1;
      budget = c.self.invariant.2;
      counts = c.self.invariant.3;
      once = c.self.invariant.5;
      made = c.self.invariant.6;
    }) (search rules)
    (record { none = c.new-taken.ensures; settles = picked.paid.1; added = c.add-2.ensures }) picked.pick
    picked.paid.2.0 picked.paid.2.1 picked.reads picked.once in
    let rest = rest-by i.input c.next_pick_ahead-found.new.input c.set_start.new.self c.end.result picked.asked
    c.set_start.ensures c.end.ensures.value in
    let there = past-some b i.first.value i.input i.last i.given.value c.add-2.new.self
    c.next_pick_ahead-found.result c.in-Some.is
    rest c.end-in-Some.ensures.value c.next-self-inside.ensures in
    rw (← c.self.view_is) (
      (
        c.next_pick_ahead-found.new.steps.looked.value,
        c.next_pick_ahead-found.new.steps.scanned.value,
        c.next_pick_ahead-found.new.steps.moved.value,
        c.add.ensures,
        c.add-2.ensures.looked,
        c.add-2.ensures.scanned,
        c.add-2.ensures.moved,
      ),
      subst IsWithinBudgetAhead (sym there) real.0,
      subst CountsWalk (sym there) real.1,
    )

pub returns-in-None-clause-cost : goal.returns-in-None-clause-cost
returns-in-None-clause-cost g c =
    let i = c.self.inside in
    let picked = c.next_pick_ahead-found.ensures in
    let b = g.A.Automaton.built i.automaton.now in
    let real = picked-ahead g.A.Automaton i.automaton.now i.start i.first.value i.input i.last i.given.value
    c.next_pick_ahead-found.result i.sums c.add-2.new.self c.new-taken.result c.next_pick_ahead-found.new.steps
    picked.paid.0 i.ahead c.next_pick_ahead-found.new.ahead
    (record {
      way = c.self.invariant.1;
      budget = c.self.invariant.2;
      counts = c.self.invariant.3;
      once = c.self.invariant.5;
      made = c.self.invariant.6;
    }) (search rules)
    (record { none = c.new-taken.ensures; settles = picked.paid.1; added = c.add-2.ensures }) picked.pick
    picked.paid.2.0 picked.paid.2.1 picked.reads picked.once in
    let rest = rest-by i.input c.next_pick_ahead-found.new.input c.set_start-in-None.new.self _ picked.asked
    c.set_start-in-None.ensures
    (ap (λ n. n + 1) (c.end-in-None.ensures.value ∙ ap (λ input. input.span.end) picked.asked)) in
    let there = past-none b i.first.value i.input i.last i.given.value c.add-2.new.self
    c.next_pick_ahead-found.result c.in-None.is
    rest in
    rw (← c.self.view_is) (
      (
        c.next_pick_ahead-found.new.steps.looked.value,
        c.next_pick_ahead-found.new.steps.scanned.value,
        c.next_pick_ahead-found.new.steps.moved.value,
        c.add.ensures,
        c.add-2.ensures.looked,
        c.add-2.ensures.scanned,
        c.add-2.ensures.moved,
      ),
      subst IsWithinBudgetAhead (sym there) real.0,
      subst CountsWalk (sym there) real.1,
    )

pub returns-then-is_done-clause-cost : goal.returns-then-is_done-clause-cost
returns-then-is_done-clause-cost g c =
    let i = c.self.inside in
    let real = walk-ahead g.A.Automaton i.start i.ahead
    (record {
      way = c.self.invariant.1;
      budget = c.self.invariant.2;
      counts = c.self.invariant.3;
      once = c.self.invariant.5;
      made = c.self.invariant.6;
    }) c.self.invariant.4 in
    rw (← c.self.view_is) (
      (
        0,
        0,
        0,
        record { looked = sym (add-zero _); scanned = sym (add-zero _); moved = sym (add-zero _) },
        sym (add-zero _),
        sym (add-zero _),
        sym (add-zero _),
      ),
      real.0,
      real.1,
    )

-- what the walk keeps after a match
pub invariant_of-self : goal.invariant_of-self
invariant_of-self g c =
    let i = c.self.inside in
    let picked = c.next_pick_ahead-found.ensures in
    let b = g.A.Automaton.built i.automaton.now in
    let kept = picked-stands g.A.Automaton i.automaton.now i.start i.first.value i.input i.last i.given.value
    c.next_pick_ahead-found.result i.sums c.add-2.new.self c.new-taken.result c.next_pick_ahead-found.new.steps
    picked.paid.0 i.ahead c.next_pick_ahead-found.new.ahead
    (record {
      way = c.self.invariant.1;
      budget = c.self.invariant.2;
      counts = c.self.invariant.3;
      once = c.self.invariant.5;
      made = c.self.invariant.6;
    }) (search rules)
    (record { none = c.new-taken.ensures; settles = picked.paid.1; added = c.add-2.ensures }) picked.pick
    picked.paid.2.0 picked.paid.2.1 picked.reads picked.once in
    let reads = picked-reads g.A.Automaton i.automaton.now i.start i.first.value i.input i.last i.given.value
    c.next_pick_ahead-found.result i.sums c.add-2.new.self c.new-taken.result c.next_pick_ahead-found.new.steps
    picked.paid.0 i.ahead c.next_pick_ahead-found.new.ahead
    (record {
      way = c.self.invariant.1;
      budget = c.self.invariant.2;
      counts = c.self.invariant.3;
      once = c.self.invariant.5;
      made = c.self.invariant.6;
    }) (search rules)
    (record { none = c.new-taken.ensures; settles = picked.paid.1; added = c.add-2.ensures }) picked.pick
    picked.paid.2.0 picked.paid.2.1 picked.reads picked.once in
    let rest = rest-by i.input c.next_pick_ahead-found.new.input c.set_start.new.self c.end.result picked.asked
    c.set_start.ensures c.end.ensures.value in
    let there = past-some b i.first.value i.input i.last i.given.value c.add-2.new.self
    c.next_pick_ahead-found.result c.in-Some.is
    rest c.end-in-Some.ensures.value c.next-self-inside.ensures in
    let after = c.next_pick_ahead-found.new.ahead in
    let paid = past-some b i.first.value i.input i.last i.given.value (less_ahead c.add-2.new.self after)
    c.next_pick_ahead-found.result c.in-Some.is
    rest c.end-in-Some.ensures.value c.next-self-inside.ensures in
    let left = rest-is i.input c.next_pick_ahead-found.new.input c.set_start.new.self c.next_pick_ahead-found.result
    c.end.result picked.asked c.set_start.ensures
    (c.end.ensures.value ∙ ap (after_pick i.input) (sym c.in-Some.is)) in (
      subst (λ input. g.A.Automaton.supports i.automaton.now input.anchored) (sym left) c.self.invariant.0,
      subst IsOnItsWay (sym there) kept.way,
      subst IsWithinBudget (sym paid) kept.budget,
      subst CountsWalk (sym paid) kept.counts,
      subst
          (λ input. ReadsAheadFrom g.A.Automaton i.automaton.now i.start input (min input.span.start input.span.end) after)
          (sym left) reads,
      subst (λ input. IsReadOnceFrom i.first.value (take input.span.end input.haystack) after) (sym left) kept.once,
      kept.made,
    )

-- and past the last one
pub invariant_of-self-in-None : goal.invariant_of-self-in-None
invariant_of-self-in-None g c =
    let i = c.self.inside in
    let picked = c.next_pick_ahead-found.ensures in
    let b = g.A.Automaton.built i.automaton.now in
    let kept = picked-stands g.A.Automaton i.automaton.now i.start i.first.value i.input i.last i.given.value
    c.next_pick_ahead-found.result i.sums c.add-2.new.self c.new-taken.result c.next_pick_ahead-found.new.steps
    picked.paid.0 i.ahead c.next_pick_ahead-found.new.ahead
    (record {
      way = c.self.invariant.1;
      budget = c.self.invariant.2;
      counts = c.self.invariant.3;
      once = c.self.invariant.5;
      made = c.self.invariant.6;
    }) (search rules)
    (record { none = c.new-taken.ensures; settles = picked.paid.1; added = c.add-2.ensures }) picked.pick
    picked.paid.2.0 picked.paid.2.1 picked.reads picked.once in
    let reads = picked-reads g.A.Automaton i.automaton.now i.start i.first.value i.input i.last i.given.value
    c.next_pick_ahead-found.result i.sums c.add-2.new.self c.new-taken.result c.next_pick_ahead-found.new.steps
    picked.paid.0 i.ahead c.next_pick_ahead-found.new.ahead
    (record {
      way = c.self.invariant.1;
      budget = c.self.invariant.2;
      counts = c.self.invariant.3;
      once = c.self.invariant.5;
      made = c.self.invariant.6;
    }) (search rules)
    (record { none = c.new-taken.ensures; settles = picked.paid.1; added = c.add-2.ensures }) picked.pick
    picked.paid.2.0 picked.paid.2.1 picked.reads picked.once in
    let rest = rest-by i.input c.next_pick_ahead-found.new.input c.set_start-in-None.new.self _ picked.asked
    c.set_start-in-None.ensures
    (ap (λ n. n + 1) (c.end-in-None.ensures.value ∙ ap (λ input. input.span.end) picked.asked)) in
    let there = past-none b i.first.value i.input i.last i.given.value c.add-2.new.self
    c.next_pick_ahead-found.result c.in-None.is
    rest in
    let after = c.next_pick_ahead-found.new.ahead in
    let paid = past-none b i.first.value i.input i.last i.given.value (less_ahead c.add-2.new.self after)
    c.next_pick_ahead-found.result c.in-None.is
    rest in
    let left = rest-is i.input c.next_pick_ahead-found.new.input c.set_start-in-None.new.self
    c.next_pick_ahead-found.result _ picked.asked c.set_start-in-None.ensures
    (ap (λ n. n + 1) (c.end-in-None.ensures.value ∙ ap (λ input. input.span.end) picked.asked)
    ∙ ap (after_pick i.input) (sym c.in-None.is)) in (
      subst (λ input. g.A.Automaton.supports i.automaton.now input.anchored) (sym left) c.self.invariant.0,
      subst IsOnItsWay (sym there) kept.way,
      subst IsWithinBudget (sym paid) kept.budget,
      subst CountsWalk (sym paid) kept.counts,
      subst
          (λ input. ReadsAheadFrom g.A.Automaton i.automaton.now i.start input (min input.span.start input.span.end) after)
          (sym left) reads,
      subst (λ input. IsReadOnceFrom i.first.value (take input.span.end input.haystack) after) (sym left) kept.once,
      kept.made,
    )
