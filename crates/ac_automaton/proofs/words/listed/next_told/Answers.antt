-- The list of a state is looked at, one entry after another, up to the next whole word.
use Rattle.std.proofs.Common.{◌≡◌, ◌⊎◌, ◌+◌, ◌-◌, ◌<◌, ◌≤◌, [], ◌∷◌, ◌++◌, true, length, sym, ap, subst, ◌∙◌, arith}
use Rattle.std.proofs.lemmas.Grind.{common_steps}
use Rattle.std.proofs.lemmas.Bool.{false≢true}
use Rattle.ac_input.specs.declared.search.Anchored.TheVariants.{No}
use Rattle.ac_input.specs.Tells.{ending_at}
use Rattle.ac_input.specs.Word.{is_whole_word}
use Rattle.ac_automaton.specs.ListedWords.{IsByteKnown, StandsForListed}
use Rattle.ac_automaton.specs.declared.words.listed.ListedPlace.{ListedPlace}
use Rattle.ac_automaton.proofs.lemmas.CursorLemmas.{list-none}
use Rattle.ac_automaton.proofs.words.listed.ListedWordLemmas.{listed-entry, listed-other, listed-word}
use Rattle.ac_automaton.proofs.words.listed.next_told.Given.{Over}
use Rattle.ac_automaton.proofs.words.listed.next_told.Goals as goal
use Rattle.ac_automaton.proofs.words.listed.next_told.Goals.{After-new-found, After-pattern_len, then-is_match, else-is_match}

pub match_pattern-pattern-requires-clause-valid : goal.match_pattern-pattern-requires-clause-valid
match_pattern-pattern-requires-clause-valid g c =
    let may = c.requires.stands in
    let there = c.loop-place.invariant.0 may.0 may.1 may.2 in
    ∣ (No, _, there.1.reads) ∣₁

-- the pattern of an entry is no longer than what was read, and the byte before it is in the window
fits : (g : Over) (c : After-pattern_len g)
    → (c.pattern_len.result ≤ c.loop-place.place.at)
    × (0 < c.loop-place.place.at - c.pattern_len.result → c.args.window.from < c.loop-place.place.at - c.pattern_len.result)
fits g c =
    let a = c.args.automaton.now in
    let m = (g.A.Automaton.built a).dictionary in
    let may = c.requires.stands in
    let there = c.loop-place.invariant.0 may.0 may.1 may.2 in
    subst (λ len. (len ≤ c.loop-place.place.at)
    × (0 < c.loop-place.place.at - len → c.args.window.from < c.loop-place.place.at - len)) (sym c.pattern_len.ensures)
    (listed-entry m (g.A.Automaton.Reaches a No) (g.A.Automaton.matches a) c.requires.standard (g.met.A.Automaton.tells a No)
    there.1 c.loop-place.place.index c.match_pattern-pattern.result c.match_pattern-pattern.ensures.value)

pub overflow_sub-start : goal.overflow_sub-start
overflow_sub-start g c = (fits g (goal.at.overflow_sub-start g c).After-pattern_len).0

pub is_whole_word-requires-clause-before : goal.is_whole_word-requires-clause-before
is_whole_word-requires-clause-before g c =
    let start = ap (λ o. o.start) c.new-found.ensures in
    subst (λ n. 0 < n → c.args.window.from < n) (sym start)
    (fits g (goal.at.is_whole_word-requires-clause-before g c).After-pattern_len).1

-- the match of an entry
found_is : (g : Over) (c : After-new-found g)
    → c.new-found.result
    ≡ ending_at (g.A.Automaton.built c.args.automaton.now).dictionary c.loop-place.place.at c.match_pattern-pattern.result
found_is g c =
    c.new-found.ensures
    ∙ ap (λ n. record {
      pattern = c.match_pattern-pattern.result;
      start = c.loop-place.place.at - n;
      end = c.loop-place.place.at;
    }) c.pattern_len.ensures

-- the byte after it is known
known_is : (g : Over) (c : After-new-found g) → IsByteKnown c.args.window c.loop-place.place
known_is g c =
    subst (λ n. (n < c.args.window.from + length c.args.window.bytes.now) ⊎ (c.args.window.closed ≡ true))
    (sym (ap (λ q. q.at) c.loop-place.invariant.1)) c.requires.known

pub returns-then-is_whole_word-clause-tells : goal.returns-then-is_whole_word-clause-tells
returns-then-is_whole_word-clause-tells g c x given stands =
    let before = (goal.at.returns-then-is_whole_word-clause-tells g c).After-new-found in
    let a = c.args.automaton.now in
    let m = (g.A.Automaton.built a).dictionary in
    let R = g.A.Automaton.Reaches a No in
    let M = g.A.Automaton.matches a in
    let now = c.loop-place.place in
    let n = c.match_pattern-pattern.result in
    let there = c.loop-place.invariant.0 x given stands in
    let found = found_is g before in
    let yes : is_whole_word x (ending_at m now.at n) ≡ true =
    sym (c.is_whole_word.ensures x there.0 ∙ ap (is_whole_word x) found) ∙ c.if-is_whole_word.true in (
      subst (λ o. StandsForListed m R M c.args.window.from c.args.window.closed x (given ++ o ∷ [])
          (record now { index = now.index + 1 })) (sym found)
          (listed-word m R M c.requires.standard (g.met.A.Automaton.tells a No) there.0 (known_is g before) there.1 n
          c.match_pattern-pattern.ensures.value yes),
      ap (λ o. o.end) found,
    )

pub loop-place-preserved : goal.loop-place-preserved
loop-place-preserved g c =
    let before = (goal.at.loop-place-preserved g c).After-new-found in
    let a = c.args.automaton.now in
    let m = (g.A.Automaton.built a).dictionary in
    let now = c.loop-place.place in
    let n = c.match_pattern-pattern.result in (
      λ x given stands.
          let there = c.loop-place.invariant.0 x given stands in
          let no = sym (c.is_whole_word.ensures x there.0 ∙ ap (is_whole_word x) (found_is g before))
          ∙ c.if-is_whole_word.false in (
            there.0,
            listed-other m (g.A.Automaton.Reaches a No) (g.A.Automaton.matches a) c.requires.standard (g.met.A.Automaton.tells a No)
                there.0 (known_is g before) there.1 n c.match_pattern-pattern.ensures.value no,
          ),
      ap (λ (q : ListedPlace). record q { index = now.index + 1 }) c.loop-place.invariant.1,
    )

pub returns-clause-tells : goal.returns-clause-tells
returns-clause-tells g c x given stands =
    let ns = g.A.Automaton.matches c.args.automaton.now c.args.place.now.sid in
    let there = c.loop-place.invariant.0 x given stands in
    let sid = ap (λ q. length (g.A.Automaton.matches c.args.automaton.now q.sid)) c.loop-place.invariant.1 in
    let all : length ns ≤ c.if-is_match.len =
    elim c.if-is_match.branch [
      | then-is_match w ↦ (let len = w.match_len-len.ensures in let is = w.len-is in omega arith)
      | else-is_match w ↦
          (let none = ap length (list-none ns (λ some. false≢true (sym w.if-is_match.false ∙ c.is_match.ensures.1 some))) in
          omega arith)
    ] in
    let test = c.loop-place-test.false in
    (there.1, omega arith)

pub is_match-requires : goal.is_match-requires
is_match-requires g c = grind (arith, common_steps)

pub match_len-len-requires-clause-valid : goal.match_len-len-requires-clause-valid
match_len-len-requires-clause-valid g c = grind (arith, common_steps)
