-- A search over what is held goes on to the next match, or to the end.
use Rattle.std.proofs.Common.{◌≡◌, ℕ, List, Option, None, drop, ◌+◌, ◌-◌, ap, sym, subst, refl, ◌∙◌, true, false, Some, arith}
use Rattle.std.proofs.lemmas.Grind.{common_steps}
use Rattle.std.specs.Prelude.{option_map, slice_get}
use Rattle.std.proofs.lemmas.Bool.{false≢true}
use Rattle.ac_input.specs.declared.search.Anchored.TheVariants.{No}
use Rattle.ac_input.specs.Dictionary.{Dictionary}
use Rattle.ac_input.specs.Number.{StateID}
use Rattle.ac_input.specs.Occurrence.{Occurrence}
use Rattle.ac_input.specs.Tells.{ending_at}
use Rattle.ac_automaton.specs.InMemory.Find.Cursor.{IsFirstAt}
use Rattle.ac_automaton.specs.InMemory.Find.Ahead.{IsAheadOf}
use Rattle.ac_automaton.specs.Stream.{StreamProgress, Picks}
use Rattle.ac_automaton.specs.Stream.Search.{SearchesOn, searched_anew}
use Rattle.ac_automaton.specs.declared.stream.search.Progress.{Progress}
use Rattle.ac_automaton.specs.Stream.Search.Walk.{StandsAfter}
use Rattle.ac_automaton.proofs.lemmas.CursorLemmas.{reached-on, reached-state}
use Rattle.ac_automaton.proofs.stream.DecideWalkLemmas.{met-held, met-then}
use Rattle.ac_automaton.proofs.stream.SearchAheadLemmas.{ahead-anywhere, ahead-met, ahead-on, held-ordered, held-over, paid_on, searches-from, settles-on}
use Rattle.ac_automaton.proofs.stream.SearchLemmas.{reached-text, searched-state, searches-anew, searches-none, searches-some, stopped-at, wait-none, wait-standard}
use Rattle.ac_automaton.proofs.stream.search.search_first.Given.{Over}
use Rattle.ac_automaton.proofs.stream.search.search_first.Goals.{After-decide-decided}
use Rattle.ac_automaton.proofs.stream.search.search_first.Goals as goal

-- the first match of a list after some bytes ends there
first-ends : (m : Dictionary) (at : ℕ) (ns : List ℕ) (o : Occurrence) → IsFirstAt m at ns o → o.end ≡ at
first-ends m at ns o is = by (slice_get ns 0) is
  where
    by : (r : Option ℕ) → Some o ≡ option_map (ending_at m at) r → o.end ≡ at
    by None e = absurd cc
    by (Some n) e = let one : o ≡ ending_at m at n = cc in ap (λ q. q.end) one

-- where nothing was met before, the search begins anew at the match's end
anew-is : (start : StateID) (p : Progress) (o : Occurrence) {at : ℕ} → o.end ≡ at → p.best ≡ None
    → searched_anew start p o
    ≡ record { progress = record p { sid = start; at = at; last = o.end }; found = Some o }
anew-is start p o {at} end none =
    ap (λ n. record {
      progress = record { sid = start; from = p.from; at = n; last = o.end; best = None; closed = p.closed };
      found = Some o;
    }) end
    ∙ ap (λ b. record {
      progress = record { sid = start; from = p.from; at = at; last = o.end; best = b; closed = p.closed };
      found = Some o;
    }) (sym none)

pub is_match-requires : goal.is_match-requires
is_match-requires g c =
    let R = g.A.Automaton.Reaches c.args.automaton.now in
    let stop = c.advance_to_match-stop in
    reached-state R No stop.result.sid
    (reached-on (R No) c.args.progress.now.sid _ stop.result.sid ∣ (_, c.requires.walk.1.stands.reads) ∣₁
    stop.ensures.goes.reads)

pub first_match-found-requires-clause-reads : goal.first_match-found-requires-clause-reads
first_match-found-requires-clause-reads g c =
    let a = c.args.automaton.now in
    let p = c.args.progress.now in
    let held = c.args.held.now in
    let stop = c.advance_to_match-stop in
    let met = g.met.A.Automaton in
    reached-text _ c.requires.walk.0 _ _ c.args.start p held stop.result _ _ c.requires.walk.1
    (stopped-at g.A.Automaton a p.sid (drop (p.at - p.from) held) stop.result c.is_match.result true _ _
    stop.ensures.goes stop.ensures.cost.2 c.is_match.ensures c.if-is_match.true)

pub returns-then-is_match-clause-walk : goal.returns-then-is_match-clause-walk
returns-then-is_match-clause-walk g c = (
  c.advance_to_match-stop.ensures.cost.0,
  c.advance_to_match-stop.ensures.cost.1,
  λ s is.
      let a = c.args.automaton.now in
      let p = c.args.progress.now in
      let held = c.args.held.now in
      let stop = c.advance_to_match-stop in
      let met = g.met.A.Automaton in
      subst (λ r. SearchesOn (g.A.Automaton.Reaches a No) s c.args.start r c.args.steps.now stop.ensures.cost.0)
      (rw c.end-progress.ensures.value
      (anew-is c.args.start p c.first_match-found.result
      (first-ends (g.A.Automaton.built a).dictionary _ _ _ c.first_match-found.ensures) c.requires.none))
      (searches-some _ s _ _ c.args.start p held stop.result true _ _ (met.tells a No) is c.requires.none
      (stopped-at g.A.Automaton a p.sid (drop (p.at - p.from) held) stop.result c.is_match.result true _ _
      stop.ensures.goes stop.ensures.cost.2 c.is_match.ensures c.if-is_match.true) refl
      (wait-none _ (sym c.may_wait.ensures ∙ c.if-may_wait.false)) c.first_match-found.result
      c.first_match-found.ensures),
)

pub decide-decided-requires-clause-walk : goal.decide-decided-requires-clause-walk
decide-decided-requires-clause-walk g c =
    let a = c.args.automaton.now in
    let p = c.args.progress.now in
    let held = c.args.held.now in
    let stop = c.advance_to_match-stop in
    let met = g.met.A.Automaton in
    let w = c.requires.walk in (
      _,
      met-held _ w.0 _ _ c.args.start p held stop.result c.first_match-found.result _ _ (met.tells a No) w.1
          c.requires.none
          (stopped-at g.A.Automaton a p.sid (drop (p.at - p.from) held) stop.result c.is_match.result true _ _
          stop.ensures.goes stop.ensures.cost.2 c.is_match.ensures c.if-is_match.true) c.first_match-found.ensures
          (λ standard. false≢true (sym (wait-standard _ standard) ∙ sym c.may_wait.ensures ∙ c.if-may_wait.true)),
    )

-- where the search stands when it has met the match
there : (g : Over) (c : After-decide-decided g) (s : StreamProgress Picks)
    → StandsAfter g.A.Automaton c.args.automaton.now s c.args.start c.args.progress.now c.args.held.now
    → (t : StreamProgress Picks) × StandsAfter g.A.Automaton c.args.automaton.now t c.args.start
    (record {
      sid = c.advance_to_match-stop.result.sid;
      closed = c.args.progress.now.closed;
      from = c.args.progress.now.from;
      at = c.args.progress.now.at + c.advance_to_match-stop.result.taken;
      last = c.args.progress.now.last;
      best = Some c.first_match-found.result;
    }) c.args.held.now
there g c s is =
    let a = c.args.automaton.now in
    let p = c.args.progress.now in
    let held = c.args.held.now in
    let stop = c.advance_to_match-stop in
    let met = g.met.A.Automaton in (
      _,
      met-held _ s _ _ c.args.start p held stop.result c.first_match-found.result _ _ (met.tells a No) is
          c.requires.none
          (stopped-at g.A.Automaton a p.sid (drop (p.at - p.from) held) stop.result c.is_match.result true _ _
          stop.ensures.goes stop.ensures.cost.2 c.is_match.ensures c.if-is_match.true) c.first_match-found.ensures
          (λ standard. false≢true (sym (wait-standard _ standard) ∙ sym c.may_wait.ensures ∙ c.if-may_wait.true)),
    )

pub returns-then-may_wait-clause-walk : goal.returns-then-may_wait-clause-walk
unfolding there
returns-then-may_wait-clause-walk g c =
    let a = c.args.automaton.now in
    let p = c.args.progress.now in
    let held = c.args.held.now in
    let stop = c.advance_to_match-stop in
    let met = g.met.A.Automaton in
    let cost = stop.ensures.cost in
    let w = c.requires.walk in
    let here = there g c w.0 w.1 in (
      paid_on cost.0 stop.new.steps c.decide-decided.new.steps,
      settles-on c.args.ahead.now stop.new.ahead _ stop.new.steps c.decide-decided.new.steps cost.0 cost.1
          (c.decide-decided.ensures.walk here.0 here.1).done,
      λ s is.
          let t = there g c s is in
          met-then _ s _ _ c.args.start p held stop.result c.first_match-found.result _ _ (met.tells a No) is
          c.requires.none
          (stopped-at g.A.Automaton a p.sid (drop (p.at - p.from) held) stop.result c.is_match.result true _ _
          stop.ensures.goes cost.2 c.is_match.ensures c.if-is_match.true) c.first_match-found.ensures
          (λ standard. false≢true (sym (wait-standard _ standard) ∙ sym c.may_wait.ensures ∙ c.if-may_wait.true))
          (record { progress = c.decide-decided.new.progress; found = c.decide-decided.result }) _
          (searches-from (g.A.Automaton.Reaches a No) t.0 c.args.start
          (record { progress = c.decide-decided.new.progress; found = c.decide-decided.result }) stop.new.steps c.decide-decided.new.steps
          cost.0 (c.decide-decided.ensures.walk t.0 t.1)),
    )

pub returns-then-may_wait-clause-ahead : goal.returns-then-may_wait-clause-ahead
returns-then-may_wait-clause-ahead g c =
    let stop = c.advance_to_match-stop in
    ahead-anywhere g.A.Automaton c.args.automaton.now (Some c.args.start) c.args.held.now _ _ _ _ stop.new.ahead
    (λ standard. absurd (false≢true (sym (wait-standard _ standard) ∙ sym c.may_wait.ensures ∙ c.if-may_wait.true)))
    stop.ensures.ahead

pub returns-then-is_match-clause-ahead : goal.returns-then-is_match-clause-ahead
returns-then-is_match-clause-ahead g c =
    let a = c.args.automaton.now in
    let stop = c.advance_to_match-stop in
    let p = c.args.progress.now in
    subst (λ n. IsAheadOf g.A.Automaton a (Some c.args.start) c.args.held.now (n - p.from) c.args.start stop.new.ahead)
    (first-ends (g.A.Automaton.built a).dictionary _ _ _ c.first_match-found.ensures)
    (ahead-met g.A.Automaton a c.args.start c.args.progress.now c.args.held.now stop.result.taken stop.result.sid
    c.first_match-found.result stop.new.ahead (held-ordered _ _ _ _ _ _ c.requires.walk.1)
    (c.is_match.ensures.0 c.if-is_match.true) c.first_match-found.ensures stop.ensures.ahead)

pub is_start-requires : goal.is_start-requires
is_start-requires g c =
    let a = c.args.automaton.now in
    let p = c.args.progress.now in
    let held = c.args.held.now in
    let stop = c.advance_to_match-stop in
    let met = g.met.A.Automaton in
    searched-state _ c.requires.walk.0 _ _ c.args.start p held stop.result false _ _ (met.tells a No) c.requires.walk.1
    c.requires.none
    (stopped-at g.A.Automaton a p.sid (drop (p.at - p.from) held) stop.result c.is_match.result false _ _
    stop.ensures.goes stop.ensures.cost.2 c.is_match.ensures c.if-is_match.false)

pub returns-then-is_start-clause-walk : goal.returns-then-is_start-clause-walk
returns-then-is_start-clause-walk g c = (
  c.advance_to_match-stop.ensures.cost.0,
  c.advance_to_match-stop.ensures.cost.1,
  λ s is.
      let a = c.args.automaton.now in
      let p = c.args.progress.now in
      let held = c.args.held.now in
      let stop = c.advance_to_match-stop in
      let met = g.met.A.Automaton in
      let stops =
      (stopped-at g.A.Automaton a p.sid (drop (p.at - p.from) held) stop.result c.is_match.result false _ _
      stop.ensures.goes stop.ensures.cost.2 c.is_match.ensures c.if-is_match.false) in
      subst (λ b. SearchesOn (g.A.Automaton.Reaches a No) s c.args.start
      (record {
        progress =
            record p {
              sid = c.args.start;
              at = p.at + stop.result.taken;
              last = p.at + stop.result.taken;
              best = b;
            };
        found = None;
      }) c.args.steps.now stop.ensures.cost.0) (sym c.requires.none)
      (searches-anew _ s _ _ c.args.start p held stop.result false _ _ (met.tells a No) is c.requires.none stops refl
      (λ text reads. (c.is_start.ensures.tells No text reads).empty c.if-is_start.true (stops.none refl).1)),
)

pub returns-clause-walk : goal.returns-clause-walk
returns-clause-walk g c = (
  c.advance_to_match-stop.ensures.cost.0,
  c.advance_to_match-stop.ensures.cost.1,
  λ s is.
      let a = c.args.automaton.now in
      let p = c.args.progress.now in
      let held = c.args.held.now in
      let stop = c.advance_to_match-stop in
      let met = g.met.A.Automaton in
      let stops =
      (stopped-at g.A.Automaton a p.sid (drop (p.at - p.from) held) stop.result c.is_match.result false _ _
      stop.ensures.goes stop.ensures.cost.2 c.is_match.ensures c.if-is_match.false) in
      subst (λ b. SearchesOn (g.A.Automaton.Reaches a No) s c.args.start
      (record {
        progress =
            record p { sid = stop.result.sid; at = p.at + stop.result.taken; best = b };
        found = None;
      }) c.args.steps.now stop.ensures.cost.0) (sym c.requires.none)
      (searches-none _ s _ _ c.args.start p held stop.result false _ _ (met.tells a No) is c.requires.none stops refl
      (λ text reads live. false≢true (sym c.if-is_start.false ∙ (c.is_start.ensures.tells No text reads).back live))),
)

pub returns-then-is_start-clause-ahead : goal.returns-then-is_start-clause-ahead
returns-then-is_start-clause-ahead g c =
    let a = c.args.automaton.now in
    let p = c.args.progress.now in
    let held = c.args.held.now in
    let stop = c.advance_to_match-stop in
    let stops =
    (stopped-at g.A.Automaton a p.sid (drop (p.at - p.from) held) stop.result c.is_match.result false _ _
    stop.ensures.goes stop.ensures.cost.2 c.is_match.ensures c.if-is_match.false) in
    ahead-anywhere g.A.Automaton a (Some c.args.start) held _ _ _ _ stop.new.ahead
    (λ standard. held-over _ _ _ _ _ _ c.requires.walk.1 stop.result.taken (stops.none refl).0) stop.ensures.ahead

pub returns-clause-ahead : goal.returns-clause-ahead
returns-clause-ahead g c =
    let a = c.args.automaton.now in
    let p = c.args.progress.now in
    let held = c.args.held.now in
    let stop = c.advance_to_match-stop in
    let stops =
    (stopped-at g.A.Automaton a p.sid (drop (p.at - p.from) held) stop.result c.is_match.result false _ _
    stop.ensures.goes stop.ensures.cost.2 c.is_match.ensures c.if-is_match.false) in
    ahead-on g.A.Automaton a c.args.start p held stop.result.taken stop.result.sid stop.new.ahead
    (held-ordered _ _ _ _ _ _ c.requires.walk.1) (stops.none refl).1 stop.ensures.ahead

pub advance_to_match-stop-requires-clause-reached : goal.advance_to_match-stop-requires-clause-reached
advance_to_match-stop-requires-clause-reached g c = grind (arith, common_steps)

pub advance_to_match-stop-requires-clause-within : goal.advance_to_match-stop-requires-clause-within
advance_to_match-stop-requires-clause-within g c = grind (arith, common_steps)

pub overflow_add-progress : goal.overflow_add-progress
overflow_add-progress g c = grind (arith, common_steps)

pub overflow_sub-from : goal.overflow_sub-from
overflow_sub-from g c = grind (arith, common_steps)

pub advance_to_match-stop-requires-clause-ahead : goal.advance_to_match-stop-requires-clause-ahead
advance_to_match-stop-requires-clause-ahead g c = grind (arith, common_steps)

pub first_match-found-requires-clause-matches : goal.first_match-found-requires-clause-matches
first_match-found-requires-clause-matches g c = grind (arith, common_steps)

pub decide-decided-requires-clause-met : goal.decide-decided-requires-clause-met
decide-decided-requires-clause-met g c = grind (arith, common_steps)

pub returns-then-may_wait-clause-once : goal.returns-then-may_wait-clause-once
returns-then-may_wait-clause-once g c = grind (arith, common_steps)

pub returns-then-is_match-clause-once : goal.returns-then-is_match-clause-once
returns-then-is_match-clause-once g c = grind (arith, common_steps)

pub returns-then-is_start-clause-once : goal.returns-then-is_start-clause-once
returns-then-is_start-clause-once g c = grind (arith, common_steps)

pub returns-clause-once : goal.returns-clause-once
returns-clause-once g c = grind (arith, common_steps)
