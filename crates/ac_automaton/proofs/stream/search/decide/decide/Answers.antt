-- The search waits on from where it stands, until the text is dead or no byte is left.
use Rattle.std.proofs.Common.{◌≡◌, false, None, Some, ap, refl, sym, subst, ◌∙◌, arith}
use Rattle.std.proofs.lemmas.Grind.{common_steps}
use Rattle.std.proofs.lemmas.Bool.{false≢true}
use Rattle.ac_input.specs.declared.search.Anchored.TheVariants.{No}
use Rattle.ac_automaton.specs.Stream.Search.{SearchesOn, searched_anew}
use Rattle.ac_automaton.specs.declared.stream.search.Progress.{Progress}
use Rattle.ac_automaton.proofs.lemmas.CursorLemmas.{list-none}
use Rattle.ac_automaton.proofs.stream.DecideWalkLemmas.{reads-there, waited-better, waited-closed, waited-dead, waited-none, waited-open, waited-reached, waited-same, waited-state, waited-text}
use Rattle.ac_automaton.proofs.stream.search.decide.decide.Goals as goal

pub loop-at-init : goal.loop-at-init
loop-at-init g c = record {
  same = refl;
  waited = λ s is. waited-none c.args.progress.now.at c.args.met _ is.stands c.requires.met is.at;
}

pub advance-stop-requires : goal.advance-stop-requires
advance-stop-requires g c =
    let a = c.args.automaton.now in
    let w = c.requires.walk in
    waited-reached g.A.Automaton a (g.met.A.Automaton.tells a No) w.1 (c.loop-at.invariant.waited w.0 w.1)

pub is_dead-requires : goal.is_dead-requires
is_dead-requires g c =
    let a = c.args.automaton.now in
    let w = c.requires.walk in
    let met = g.met.A.Automaton in
    waited-state g.A.Automaton a (met.tells a No) w.1 (c.loop-at.invariant.waited w.0 w.1) (met.stops a No) _ (omega
    (arith, c.loop-at-test.true)) c.advance-stop.ensures.goes c.advance-stop.ensures.cost

pub returns-then-is_dead : goal.returns-then-is_dead
returns-then-is_dead g c = record {
  walk = λ s is.
      let a = c.args.automaton.now in
      let met = g.met.A.Automaton in
      let reads = reads-there g.A.Automaton a (met.tells a No) is (c.loop-at.invariant.waited s is) (met.stops a No) _ (omega
      (arith, c.loop-at-test.true)) c.advance-stop.ensures.goes c.advance-stop.ensures.cost in
      subst (λ p. SearchesOn (g.A.Automaton.Reaches a No) s c.args.start
      (record { progress = p; found = Some c.loop-at.best }) c.args.steps.now c.advance-stop.new.steps)
      (sym (c.begin_anew.ensures ∙ ap (λ p. (searched_anew c.args.start p c.loop-at.best).progress) c.loop-at.invariant.same))
      (waited-dead g.A.Automaton a (met.tells a No) is (c.loop-at.invariant.waited s is) (met.stops a No) _ (omega
      (arith, c.loop-at-test.true)) c.advance-stop.ensures.goes c.advance-stop.ensures.cost
      ((c.is_dead.ensures No _ reads).0 c.if-is_dead.true));
}

pub is_match-requires : goal.is_match-requires
is_match-requires g c =
    let a = c.args.automaton.now in
    let w = c.requires.walk in
    let met = g.met.A.Automaton in
    waited-state g.A.Automaton a (met.tells a No) w.1 (c.loop-at.invariant.waited w.0 w.1) (met.stops a No) _ (omega
    (arith, c.loop-at-test.true)) c.advance-stop.ensures.goes c.advance-stop.ensures.cost

pub first_match-best-requires-clause-reads : goal.first_match-best-requires-clause-reads
first_match-best-requires-clause-reads g c =
    let a = c.args.automaton.now in
    let w = c.requires.walk in
    let met = g.met.A.Automaton in
    waited-text g.A.Automaton a (met.tells a No) w.1 (c.loop-at.invariant.waited w.0 w.1) (met.stops a No) _ (omega
    (arith, c.loop-at-test.true)) c.advance-stop.ensures.goes c.advance-stop.ensures.cost

pub loop-at-preserved-then-is_match : goal.loop-at-preserved-then-is_match
loop-at-preserved-then-is_match g c = record {
  same = c.loop-at.invariant.same;
  waited = λ s is.
      let a = c.args.automaton.now in
      let met = g.met.A.Automaton in
      let reads = reads-there g.A.Automaton a (met.tells a No) is (c.loop-at.invariant.waited s is) (met.stops a No) _ (omega
      (arith, c.loop-at-test.true)) c.advance-stop.ensures.goes c.advance-stop.ensures.cost in
      waited-better g.A.Automaton a (met.tells a No) is (c.loop-at.invariant.waited s is) (met.stops a No) _ (omega
      (arith, c.loop-at-test.true)) c.advance-stop.ensures.goes c.advance-stop.ensures.cost
      c.first_match-best.result (λ dead. false≢true (sym c.if-is_dead.false ∙ (c.is_dead.ensures No _ reads).1 dead))
      (c.is_match.ensures.0 c.if-is_match.true) c.first_match-best.ensures;
}

pub loop-at-preserved : goal.loop-at-preserved
loop-at-preserved g c = record {
  same = c.loop-at.invariant.same;
  waited = λ s is.
      let a = c.args.automaton.now in
      let met = g.met.A.Automaton in
      let reads = reads-there g.A.Automaton a (met.tells a No) is (c.loop-at.invariant.waited s is) (met.stops a No) _ (omega
      (arith, c.loop-at-test.true)) c.advance-stop.ensures.goes c.advance-stop.ensures.cost in
      waited-same g.A.Automaton a (met.tells a No) is (c.loop-at.invariant.waited s is) (met.stops a No) _ (omega
      (arith, c.loop-at-test.true)) c.advance-stop.ensures.goes c.advance-stop.ensures.cost
      (λ dead. false≢true (sym c.if-is_dead.false ∙ (c.is_dead.ensures No _ reads).1 dead))
      (list-none (g.A.Automaton.matches a c.advance-stop.result.sid)
      (λ some. false≢true (sym c.if-is_match.false ∙ c.is_match.ensures.1 some)));
}

pub returns-then-progress : goal.returns-then-progress
returns-then-progress g c = record {
  walk = λ s is.
      let a = c.args.automaton.now in
      let met = g.met.A.Automaton in
      subst (λ p. SearchesOn (g.A.Automaton.Reaches a No) s c.args.start
      (record { progress = p; found = Some c.loop-at.best }) c.args.steps.now c.loop-at.steps)
      (sym (c.begin_anew-then-progress.ensures
      ∙ ap (λ p. (searched_anew c.args.start p c.loop-at.best).progress) c.loop-at.invariant.same))
      (waited-closed g.A.Automaton a (met.tells a No) is (c.loop-at.invariant.waited s is) (omega
      (arith, c.loop-at-test.false))
      (sym (ap (λ (p : Progress). p.closed) c.loop-at.invariant.same) ∙ c.if-progress.true));
}

pub returns : goal.returns
returns g c = record {
  walk = λ s is.
      let a = c.args.automaton.now in
      let met = g.met.A.Automaton in
      let p = c.args.progress.now in
      let same = c.loop-at.invariant.same in
      let waits : p.closed ≡ false = sym (ap (λ (q : Progress). q.closed) same) ∙ c.if-progress.false in
      subst (λ q. SearchesOn (g.A.Automaton.Reaches a No) s c.args.start
      (record {
        progress = record q { sid = c.loop-at.sid; at = c.loop-at.at; best = Some c.loop-at.best };
        found = None;
      }) c.args.steps.now c.loop-at.steps) (sym same)
      (subst (λ b. SearchesOn (g.A.Automaton.Reaches a No) s c.args.start
      (record {
        progress = record p { sid = c.loop-at.sid; at = c.loop-at.at; best = Some c.loop-at.best; closed = b };
        found = None;
      }) c.args.steps.now c.loop-at.steps) (sym waits)
      (waited-open g.A.Automaton a (met.tells a No) is (c.loop-at.invariant.waited s is) (omega
      (arith, c.loop-at-test.false)) waits));
}

pub overflow_add-at : goal.overflow_add-at
overflow_add-at g c = grind (arith, common_steps)

pub overflow_sub-at : goal.overflow_sub-at
overflow_sub-at g c = grind (arith, common_steps)

pub overflow_sub-at-in-loop-at : goal.overflow_sub-at-in-loop-at
overflow_sub-at-in-loop-at g c = grind (arith, common_steps)

pub slice_bounds-advance-count : goal.slice_bounds-advance-count
slice_bounds-advance-count g c = grind (arith, common_steps)

pub slice_bounds-advance-start : goal.slice_bounds-advance-start
slice_bounds-advance-start g c = grind (arith, common_steps)

pub slice_bounds-advance-end : goal.slice_bounds-advance-end
slice_bounds-advance-end g c = grind (arith, common_steps)

pub first_match-best-requires-clause-matches : goal.first_match-best-requires-clause-matches
first_match-best-requires-clause-matches g c = grind (arith, common_steps)

pub loop-at-smaller-then-is_match : goal.loop-at-smaller-then-is_match
loop-at-smaller-then-is_match g c = grind (arith, common_steps)

pub loop-at-smaller : goal.loop-at-smaller
loop-at-smaller g c = grind (arith, common_steps)
