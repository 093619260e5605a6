-- The next whole word of the listing: of the state's list, or else of the next state that matches.
use Rattle.std.proofs.Common.{◌≡◌, ◌≤◌, ℕ, List, false, length, sym, ap, subst, ◌∙◌, arith}
use Rattle.std.proofs.lemmas.Bool.{false≢true}
use Rattle.ac_input.specs.declared.search.Anchored.TheVariants.{No}
use Rattle.ac_input.specs.Occurrence.{Occurrence}
use Rattle.ac_automaton.specs.ListedWords.{StandsInWindow}
use Rattle.ac_automaton.specs.Words.{PaysForWords}
use Rattle.ac_automaton.proofs.words.FinalLemmas.{window-end}
use Rattle.ac_automaton.proofs.words.WordCostLemmas.{pays-then}
use Rattle.ac_automaton.proofs.words.listed.ListedWordLemmas.{listed-end, listed-next, listed-none}
use Rattle.ac_automaton.proofs.words.listed.next_listed_word.Given.{Over}
use Rattle.ac_automaton.proofs.words.listed.next_listed_word.Goals as goal
use Rattle.ac_automaton.proofs.words.listed.next_listed_word.Goals.{After-is_some}

pub next_told-found-requires-clause-stands : goal.next_told-found-requires-clause-stands
next_told-found-requires-clause-stands g c =
    let may = c.requires.stands in
    (may.0, may.1, c.loop-place.invariant.0 may.0 may.1 may.2)

pub returns-then-is_some-clause-lists : goal.returns-then-is_some-clause-lists
returns-then-is_some-clause-lists g c x given stands =
    let a = c.args.automaton.now in
    listed-next (g.A.Automaton.built a).dictionary (g.A.Automaton.Reaches a No) (g.A.Automaton.matches a) c.args.window.from
    c.args.window.closed x given c.next_told-found.new.place c.next_told-found.result
    (sym c.is_some.ensures ∙ c.if-is_some.true)
    (c.next_told-found.ensures.tells x given (c.loop-place.invariant.0 x given stands))

-- what was paid up to where it stands, whatever of the state's list was looked at
paid : (g : Over) (c : After-is_some g) (x : List ℕ) (given : List Occurrence)
    → StandsInWindow g.A.Automaton c.args.automaton.now c.args.window x given c.args.place.now
    → PaysForWords (g.A.Automaton.built c.args.automaton.now) x 0 c.args.place.now.at c.next_told-found.new.place.at
    c.args.steps.now c.loop-place.steps
paid g c x given stands =
    subst (λ n. PaysForWords (g.A.Automaton.built c.args.automaton.now) x 0 c.args.place.now.at n c.args.steps.now
    c.loop-place.steps) (sym (ap (λ q. q.at) c.next_told-found.ensures.same)) (c.loop-place.invariant.2 x given stands)

pub returns-then-is_some-clause-cost : goal.returns-then-is_some-clause-cost
returns-then-is_some-clause-cost g c x given stands =
    paid g (goal.at.returns-then-is_some-clause-cost g c).After-is_some x given stands

-- where the state's list has no other word, it stands right with all of it looked at
none_left : (g : Over) (c : After-is_some g) → c.is_some.result ≡ false → (x : List ℕ) (given : List Occurrence)
    → StandsInWindow g.A.Automaton c.args.automaton.now c.args.window x given c.args.place.now
    → StandsInWindow g.A.Automaton c.args.automaton.now c.args.window x given c.next_told-found.new.place
    × (length (g.A.Automaton.matches c.args.automaton.now c.next_told-found.new.place.sid) ≤ c.next_told-found.new.place.index)
none_left g c none x given stands =
    let a = c.args.automaton.now in
    let there = c.loop-place.invariant.0 x given stands in
    let left = listed-none (g.A.Automaton.built a).dictionary (g.A.Automaton.Reaches a No) (g.A.Automaton.matches a)
    c.args.window.from c.args.window.closed x given c.next_told-found.new.place c.next_told-found.result
    (sym c.is_some.ensures ∙ none) (c.next_told-found.ensures.tells x given there) in
    ((there.0, left.0), left.1)

pub returns-then-place-end-2-clause-lists : goal.returns-then-place-end-2-clause-lists
returns-then-place-end-2-clause-lists g c x given stands =
    let a = c.args.automaton.now in
    let left = none_left g (goal.at.returns-then-place-end-2-clause-lists g c).After-is_some c.if-is_some.false x given stands in
    listed-end (g.A.Automaton.built a).dictionary (g.A.Automaton.Reaches a No) (g.A.Automaton.matches a) c.args.window.from
    c.args.window.closed x given c.next_told-found.new.place left.0.1 left.1 (c.if-place-end-2.true ∙ window-end left.0.0)

pub returns-then-place-end-2-clause-cost : goal.returns-then-place-end-2-clause-cost
returns-then-place-end-2-clause-cost g c x given stands =
    paid g (goal.at.returns-then-place-end-2-clause-cost g c).After-is_some x given stands

pub read_on-requires-clause-told : goal.read_on-requires-clause-told
read_on-requires-clause-told g c =
    let may = c.requires.stands in
    (none_left g (goal.at.read_on-requires-clause-told g c).After-is_some c.if-is_some.false may.0 may.1 may.2).1

pub read_on-requires-clause-more : goal.read_on-requires-clause-more
read_on-requires-clause-more g c =
    let may = c.requires.stands in
    let left = none_left g (goal.at.read_on-requires-clause-more g c).After-is_some c.if-is_some.false may.0 may.1 may.2 in
    let within = left.0.1.within in
    let end = window-end left.0.0 in
    let not = c.if-place-end-2.false in
    omega arith

pub read_on-requires-clause-stands : goal.read_on-requires-clause-stands
read_on-requires-clause-stands g c =
    let may = c.requires.stands in (
      may.0,
      may.1,
      (none_left g (goal.at.read_on-requires-clause-stands g c).After-is_some c.if-is_some.false may.0 may.1 may.2).0,
    )

pub loop-place-preserved : goal.loop-place-preserved
loop-place-preserved g c =
    let before = (goal.at.loop-place-preserved g c).After-is_some in
    let ran = c.read_on.ensures in
    let at = ap (λ q. q.at) c.next_told-found.ensures.same in
    let further = ran.further.0 in
    let le = c.loop-place.invariant.1 in (
      λ x given stands. ran.stands x given (none_left g before c.if-is_some.false x given stands).0,
      omega arith,
      λ x given stands.
          pays-then (omega arith) (omega arith) (paid g before x given stands)
          (ran.cost x given (none_left g before c.if-is_some.false x given stands).0),
    )

pub returns-clause-lists : goal.returns-clause-lists
returns-clause-lists g c x given stands =
    let there = c.loop-place.invariant.0 x given stands in
    let within = there.1.within in
    let end = window-end there.0 in
    let past = c.if-place-end.false in
    (there.1, omega arith, λ over. absurd (false≢true (sym c.if-window.false ∙ over)))
