-- The best word of those that were looked at is the next one, once it is decided.
use Rattle.std.proofs.Common.{◌≡◌, ◌⊎◌, inl, inr, ◌+◌, ◌<◌, ◌≤◌, ℕ, true, false, List, length, nat_eq, Option, None, Some, sym, ap, subst, refl, ◌∙◌, arith}
use Rattle.std.proofs.lemmas.Grind.{common_steps}
use Rattle.std.proofs.lemmas.Bool.{false≢true}
use Rattle.std.proofs.lemmas.Bool.Decides.{nat_tests}
use Rattle.ac_input.specs.declared.search.Anchored.TheVariants.{No}
use Rattle.ac_input.specs.declared.search.MatchKind.{MatchKind}
use Rattle.ac_input.specs.Best.{IsLeast}
use Rattle.ac_input.specs.Dictionary.{Dictionary}
use Rattle.ac_input.specs.Occurrence.{Occurrence}
use Rattle.ac_input.specs.Word.{OccursWhole}
use Rattle.ac_automaton.specs.Words.{HasSeen, IsBestOpen, IsFinalWord, IsWindowOf, PaysForWords, StandsForWords, WordsBefore, anew_after, text_from, word_reach}
use Rattle.ac_automaton.specs.declared.words.WordPlace.{WordPlace}
use Rattle.ac_automaton.proofs.words.FinalLemmas.{final-word, no-word, open-decided, place-best, window-end}
use Rattle.ac_automaton.proofs.words.WordCostLemmas.{pays-then, seen-near}
use Rattle.ac_automaton.proofs.words.next_word.Given.{Over}
use Rattle.ac_automaton.proofs.words.next_word.Goals as goal
use Rattle.ac_automaton.proofs.words.next_word.Goals.{After-best_at-place, then-place-end, else-place-end+then-window}

pub decided-requires : goal.decided-requires
decided-requires g c =
    let stands = c.loop-place.invariant.0 c.requires.stands.0 c.requires.stands.1 c.requires.stands.2 in
    ∣ (No, _, stands.place.reads) ∣₁

pub decided-requires-2 : goal.decided-requires-2
decided-requires-2 g c =
    let stands = c.loop-place.invariant.0 c.requires.stands.0 c.requires.stands.1 c.requires.stands.2 in
    ∣ (No, _, stands.place.reads) ∣₁

-- the byte where it stands is in the window, or nothing follows
shown : (g : Over) (c : After-best_at-place g)
    → (c.loop-place.place.at < c.args.window.from + length c.args.window.bytes.now) ⊎ (c.args.window.closed ≡ true)
shown g c =
    elim c.if-place-end.branch [
      | then-place-end w ↦ inl w.if-place-end.true
      | else-place-end+then-window w ↦ inr w.if-window.true
    ]

-- so it didn't begin at the end of an open window
goes-on : (g : Over) (c : After-best_at-place g) → c.args.window.closed ≡ false
    → ¬ (c.args.place.now.at ≡ c.args.window.from + length c.args.window.bytes.now)
goes-on g c open_ end =
    elim (shown g c) [
      | inl inside ↦ let le = c.loop-place.invariant.2 in omega arith
      | inr closed ↦ false≢true (sym open_ ∙ closed)
    ]

pub returns-in-Some-clause-finds : goal.returns-in-Some-clause-finds
returns-in-Some-clause-finds g c x is stands =
    let before = (goal.at.returns-in-Some-clause-finds g c).After-best_at-place in
    let a = c.args.automaton.now in
    let m = (g.A.Automaton.built a).dictionary in
    let R = g.A.Automaton.Reaches a No in
    let M = g.A.Automaton.matches a in
    let now = c.loop-place.place in
    let there = c.loop-place.invariant.0 x is stands in
    let same = c.loop-place.invariant.1 in
    let end = window-end is in
    let within = there.place.within in
    let o = c.in-Some.found in
    let decided = c.in-Some.ensures in
    let best : IsLeast now.kind (WordsBefore m x now.last (now.at + 1)) (Some o) =
    subst (IsLeast now.kind (WordsBefore m x now.last (now.at + 1))) decided.0 (c.best_at-place.ensures x is there) in
    let known : (now.at + 1 ≤ length x) ⊎ ((c.args.window.closed ≡ true) × (now.at + 1 ≤ length x + 1)) =
    elim (shown g before) [
      | inl inside ↦ inl (omega arith)
      | inr closed ↦ inr (closed, omega arith)
    ] in
    let over : nat_eq now.at (c.args.window.from + length c.args.window.bytes.now) ≡ true
    → (c.args.window.closed ≡ true) × (length x < now.at + 1) =
    λ e. let at : now.at ≡ c.args.window.from + length c.args.window.bytes.now = grind (arith, nat_tests) in
    elim (shown g before) [
      | inl inside ↦ absurd (omega arith)
      | inr closed ↦ (closed, omega arith)
    ] in
    let final = final-word m R M c.args.window.closed c.requires.standard c.requires.filled (g.met.A.Automaton.tells a No)
    (place-best there.place c.best_at-place.result) (now.at + 1) _ o known (omega arith) (omega arith) over best
    decided.1 in (
      c.begin_anew.ensures ∙ ap (λ q. anew_after (record q { best = c.best_at-place.result }) o) same,
      subst (λ q. IsFinalWord m q.kind c.args.window.closed x q.last o) same final.0,
      final.1,
    )

-- no word ends up to there, so none before there
none_yet : (kind : MatchKind) (m : Dictionary) (x : List ℕ) (last at : ℕ) (r : Option Occurrence)
    → ((o : Occurrence) → ¬ (r ≡ Some o)) → IsLeast kind (WordsBefore m x last (at + 1)) r
    → IsLeast kind (WordsBefore m x last at) r × IsLeast kind (WordsBefore m x last (at + 1)) None
none_yet kind m x last at None not none = (λ o h. none o (h.0, let e = h.1 in omega arith), none)
none_yet kind m x last at (Some o) not best = absurd (not o refl)

pub returns-then-place-end-2-clause-finds : goal.returns-then-place-end-2-clause-finds
returns-then-place-end-2-clause-finds g c x is stands =
    let m = (g.A.Automaton.built c.args.automaton.now).dictionary in
    let now = c.loop-place.place in
    let there = c.loop-place.invariant.0 x is stands in
    let same = c.loop-place.invariant.1 in
    let end = window-end is in
    let at = c.if-place-end-2.true in
    let here : nat_eq now.at (c.args.window.from + length c.args.window.bytes.now) ≡ true = grind (arith, nat_tests) in
    let not : (o : Occurrence) → ¬ (c.best_at-place.result ≡ Some o) =
    λ o e. false≢true (sym (c.in_default.ensures o e).more ∙ here) in
    let none = none_yet now.kind m x now.last now.at c.best_at-place.result not (c.best_at-place.ensures x is there) in (
      record {
        place = place-best there.place c.best_at-place.result;
        best = none.0;
        near = λ o e. absurd (not o e);
      },
      ap (λ q. q.kind) same,
      ap (λ q. q.start) same,
      ap (λ q. q.last) same,
      omega arith,
      λ closed. subst (λ q. IsLeast q.kind (OccursWhole (text_from m x q.last)) None) same
          (no-word m x now.last (now.at + 1) now.kind (omega arith) none.1),
    )

pub returns-clause-finds : goal.returns-clause-finds
returns-clause-finds g c x is stands =
    let a = c.args.automaton.now in
    let m = (g.A.Automaton.built a).dictionary in
    let now = c.loop-place.place in
    let there = c.loop-place.invariant.0 x is stands in
    let same = c.loop-place.invariant.1 in
    let o = c.in_ok-found.found in
    let decided = c.in_ok-found.ensures in
    let best : IsLeast now.kind (WordsBefore m x now.last now.at) (Some o) =
    subst (IsLeast now.kind (WordsBefore m x now.last now.at)) decided.0 there.best in
    let final = final-word m (g.A.Automaton.Reaches a No) (g.A.Automaton.matches a) c.args.window.closed c.requires.standard c.requires.filled
    (g.met.A.Automaton.tells a No) there.place now.at false o (inl there.place.within) (omega arith) (omega arith)
    (λ e. absurd (false≢true e)) best decided.1 in (
      c.begin_anew-2.ensures ∙ ap (λ q. anew_after q o) same,
      subst (λ q. IsFinalWord m q.kind c.args.window.closed x q.last o) same final.0,
      final.1,
    )

-- what it stands on once it has looked at what ends there
seen : (g : Over) (c : After-best_at-place g) (x : List ℕ) → IsWindowOf c.args.window x
    → StandsForWords (g.A.Automaton.built c.args.automaton.now).dictionary (g.A.Automaton.Reaches c.args.automaton.now No)
    c.args.window.from x c.args.place.now
    → HasSeen (g.A.Automaton.built c.args.automaton.now).dictionary (g.A.Automaton.Reaches c.args.automaton.now No)
    c.args.window.from x (record c.loop-place.place { best = c.best_at-place.result })
seen g c x is stands =
    let there = c.loop-place.invariant.0 x is stands in
    record { place = place-best there.place c.best_at-place.result; best = c.best_at-place.ensures x is there }

pub loop-place-preserved : goal.loop-place-preserved
loop-place-preserved g c =
    let before = (goal.at.loop-place-preserved g c).After-best_at-place in
    let new = c.read_on.new.place in
    let ran = c.read_on.ensures in
    let further = ran.further.0 in
    let le = c.loop-place.invariant.2 in
    let last = ap (λ q. q.last) c.loop-place.invariant.1 in
    let best : new.best ≡ c.best_at-place.result = ap (λ q. q.best) ran.same in (
      λ x is stands. ran.stands x is (seen g before x is stands),
      ran.same
          ∙ ap (λ (q : WordPlace). record q { sid = new.sid; at = new.at; best = c.best_at-place.result }) c.loop-place.invariant.1
          ∙ ap (λ r. record c.args.place.now { sid = new.sid; at = new.at; best = r }) (sym best),
      omega arith,
      λ x is stands.
          pays-then le (omega arith) (c.loop-place.invariant.3 x is stands)
          (subst (λ n. PaysForWords (g.A.Automaton.built c.args.automaton.now) x n c.loop-place.place.at new.at
          c.loop-place.steps c.read_on.new.steps) last (ran.cost x is (seen g before x is stands))),
      λ open_ end. absurd (goes-on g before open_ end),
    )

pub returns-in-Some-clause-cost : goal.returns-in-Some-clause-cost
returns-in-Some-clause-cost g c x is stands =
    let before = (goal.at.returns-in-Some-clause-cost g c).After-best_at-place in
    let m = (g.A.Automaton.built c.args.automaton.now).dictionary in
    let now = c.loop-place.place in
    let there = c.loop-place.invariant.0 x is stands in
    let o = c.in-Some.found in
    let best : IsLeast now.kind (WordsBefore m x now.last (now.at + 1)) (Some o) =
    subst (IsLeast now.kind (WordsBefore m x now.last (now.at + 1))) c.in-Some.ensures.0 (c.best_at-place.ensures x is there) in
    let ends = best.0.1 in (
      now.at,
      omega arith,
      subst (λ k. now.at ≤ word_reach k m.patterns o) (ap (λ q. q.kind) c.loop-place.invariant.1) (seen-near there o best),
      there.place.within,
      c.loop-place.invariant.3 x is stands,
    )

pub returns-then-place-end-2-clause-cost : goal.returns-then-place-end-2-clause-cost
returns-then-place-end-2-clause-cost g c x is stands = c.loop-place.invariant.3 x is stands

pub returns-clause-cost : goal.returns-clause-cost
returns-clause-cost g c x is stands =
    let m = (g.A.Automaton.built c.args.automaton.now).dictionary in
    let now = c.loop-place.place in
    let there = c.loop-place.invariant.0 x is stands in
    let o = c.in_ok-found.found in
    let found = c.in_ok-found.ensures.0 in
    let best : IsLeast now.kind (WordsBefore m x now.last now.at) (Some o) =
    subst (IsLeast now.kind (WordsBefore m x now.last now.at)) found there.best in
    let ends = best.0.1 in (
      now.at,
      omega arith,
      subst (λ k. now.at ≤ word_reach k m.patterns o) (ap (λ q. q.kind) c.loop-place.invariant.1) (there.near o found).1,
      there.place.within,
      c.loop-place.invariant.3 x is stands,
    )

pub returns-in-Some-clause-waits : goal.returns-in-Some-clause-waits
returns-in-Some-clause-waits g c = record {
  open_ = λ none. absurd (let e : Some c.in-Some.found ≡ None = none in cc);
  rests = λ open_ end best.
      absurd (goes-on g (goal.at.returns-in-Some-clause-waits g c).After-best_at-place open_ end);
}

pub returns-clause-waits : goal.returns-clause-waits
returns-clause-waits g c = record {
  open_ = λ none. absurd (let e : Some c.in_ok-found.found ≡ None = none in cc);
  rests = λ open_ end best.
      let a = c.args.automaton.now in
      let now = c.loop-place.place in
      let same : now ≡ c.args.place.now = c.loop-place.invariant.4 open_ end in
      let stands = c.loop-place.invariant.0 c.requires.stands.0 c.requires.stands.1 c.requires.stands.2 in
      let decided = c.in_ok-found.ensures in
      let open_best : IsBestOpen g.A.Automaton a now = subst (IsBestOpen g.A.Automaton a) (sym same) best in
      absurd (open-decided g.A.Automaton a stands.place.reads (open_best c.in_ok-found.found decided.0) decided.1);
}

pub read_on-requires-clause-stands : goal.read_on-requires-clause-stands
read_on-requires-clause-stands g c = grind (arith, common_steps)

pub returns-in_err-found-clause-finds : goal.returns-in_err-found-clause-finds
returns-in_err-found-clause-finds g c = grind (arith, common_steps)
