-- The list of a state is looked at, one entry after another, to the first whole word.
use Rattle.std.proofs.Common.{◌≡◌, ◌-◌, ◌<◌, ◌≤◌, ⊎_elim, length, sym, ap, subst, ◌∙◌, arith}
use Rattle.std.proofs.lemmas.Grind.{common_steps}
use Rattle.std.proofs.lemmas.Bool.{cases_lt, false≢true}
use Rattle.ac_input.specs.declared.search.Anchored.TheVariants.{No}
use Rattle.ac_input.specs.Tells.{ending_at}
use Rattle.ac_input.specs.Word.{is_whole_word}
use Rattle.ac_input.specs.Work.{longest}
use Rattle.ac_input.proofs.lemmas.WordLemmas.{occurs-reach}
use Rattle.ac_automaton.specs.Masking.Words.{IsLongestWord}
use Rattle.ac_automaton.specs.Words.{text_from}
use Rattle.ac_automaton.proofs.lemmas.CursorLemmas.{list-none}
use Rattle.ac_automaton.proofs.words.WordPlaceLemmas.{entry-occurs}
use Rattle.ac_automaton.proofs.masking.words.WordMaskLemmas.{longest-found, longest-none, none-more}
use Rattle.ac_automaton.proofs.masking.words.longest_word.Given.{Over}
use Rattle.ac_automaton.proofs.masking.words.longest_word.Goals as goal
use Rattle.ac_automaton.proofs.masking.words.longest_word.Goals.{After-new-found, After-pattern_len}

pub returns-then-not-is_match : goal.returns-then-not-is_match
returns-then-not-is_match g c x is stands =
    let a = c.args.automaton.now in
    let p = c.args.place.now in
    let ns = g.A.Automaton.matches a p.sid in
    let none = ap length (list-none ns (λ some. false≢true (c.if-not-is_match.ensures.1 some))) in
    longest-none (g.A.Automaton.built a).dictionary x p.at stands.within c.requires.standard ns
    (g.met.A.Automaton.tells a No _ p.sid stands.reads) 0 (omega arith) (λ i n lt. absurd (omega arith))

pub loop-index-init : goal.loop-index-init
loop-index-init g c x is stands i n lt = absurd (omega arith)

-- an entry's pattern is no longer than the text before the place, and no longer than the longest one
fits : (g : Over) (c : After-pattern_len g)
    → (c.pattern_len.result ≤ c.args.place.now.at)
    × (c.pattern_len.result ≤ longest (g.A.Automaton.built c.args.automaton.now).dictionary.patterns)
fits g c =
    let a = c.args.automaton.now in
    let m = (g.A.Automaton.built a).dictionary in
    let p = c.args.place.now in
    let x = c.requires.stands.0 in
    let stands = c.requires.stands.2 in
    let lies = entry-occurs m x 0 p.at (omega arith) stands.within c.requires.standard (g.A.Automaton.matches a p.sid)
    (g.met.A.Automaton.tells a No _ p.sid stands.reads) c.loop-index.index c.match_pattern-pattern.result
    c.match_pattern-pattern.ensures.value in
    let reach = occurs-reach {s = text_from m x 0} (omega arith) lies.1 in
    let len = c.pattern_len.ensures in
    let few = lies.0 in
    (omega arith, omega arith)

pub overflow_sub-start : goal.overflow_sub-start
overflow_sub-start g c =
    (fits g (goal.at.overflow_sub-start g c).After-pattern_len).0

-- the match of an entry
found_is : (g : Over) (c : After-new-found g)
    → c.new-found.result
    ≡ ending_at (g.A.Automaton.built c.args.automaton.now).dictionary c.args.place.now.at c.match_pattern-pattern.result
found_is g c =
    let len = c.pattern_len.ensures in
    c.new-found.ensures
    ∙ ap (λ n. record { pattern = c.match_pattern-pattern.result; start = c.args.place.now.at - n; end = c.args.place.now.at }) len

pub is_whole_word-requires-clause-before : goal.is_whole_word-requires-clause-before
is_whole_word-requires-clause-before g c some =
    let few = fits g (goal.at.is_whole_word-requires-clause-before g c).After-pattern_len in
    let one = few.0 in
    let two = few.1 in
    let start = ap (λ o. o.start) c.new-found.ensures in
    ⊎_elim
    (λ (past : 0 < c.args.window.from). let near = c.requires.near past in omega arith)
    (λ (first : c.args.window.from ≤ 0). omega arith)
    (cases_lt 0 c.args.window.from)

pub is_whole_word-requires-clause-after : goal.is_whole_word-requires-clause-after
is_whole_word-requires-clause-after g c =
    let end = ap (λ o. o.end) c.new-found.ensures in
    ⊎_elim
    (λ (past : 0 < c.args.window.from). let near = c.requires.near past in omega arith)
    (λ (first : c.args.window.from ≤ 0). omega arith)
    (cases_lt 0 c.args.window.from)

pub returns-then-is_whole_word : goal.returns-then-is_whole_word
returns-then-is_whole_word g c x is stands =
    let a = c.args.automaton.now in
    let m = (g.A.Automaton.built a).dictionary in
    let p = c.args.place.now in
    let ns = g.A.Automaton.matches a p.sid in
    let n = c.match_pattern-pattern.result in
    let found = found_is g (goal.at.returns-then-is_whole_word g c).After-new-found in
    let len = c.pattern_len.ensures in
    let whole : c.is_whole_word.result ≡ is_whole_word x (ending_at m p.at n) =
    c.is_whole_word.ensures x is ∙ ap (is_whole_word x) found in
    subst (IsLongestWord m x p.at) (ap (λ k. p.at - k) (sym len))
    (longest-found m x p.at stands.within c.requires.standard ns (g.met.A.Automaton.tells a No _ p.sid stands.reads)
    c.loop-index.index n (c.loop-index.invariant x is stands) c.match_pattern-pattern.ensures.value
    (sym whole ∙ c.if-is_whole_word.true))

pub loop-index-preserved : goal.loop-index-preserved
loop-index-preserved g c x is stands =
    let a = c.args.automaton.now in
    let m = (g.A.Automaton.built a).dictionary in
    let p = c.args.place.now in
    let n = c.match_pattern-pattern.result in
    let found = found_is g (goal.at.loop-index-preserved g c).After-new-found in
    let whole : c.is_whole_word.result ≡ is_whole_word x (ending_at m p.at n) =
    c.is_whole_word.ensures x is ∙ ap (is_whole_word x) found in
    none-more m x p.at (g.A.Automaton.matches a p.sid) c.loop-index.index n (c.loop-index.invariant x is stands)
    c.match_pattern-pattern.ensures.value (sym whole ∙ c.if-is_whole_word.false)

pub returns : goal.returns
returns g c x is stands =
    let a = c.args.automaton.now in
    let p = c.args.place.now in
    let len = c.match_len-index-end.ensures in
    longest-none (g.A.Automaton.built a).dictionary x p.at stands.within c.requires.standard
    (g.A.Automaton.matches a p.sid) (g.met.A.Automaton.tells a No _ p.sid stands.reads)
    c.loop-index.index (let t = c.loop-index-test.false in omega arith) (c.loop-index.invariant x is stands)

pub is_match-requires : goal.is_match-requires
is_match-requires g c = grind (arith, common_steps)

pub pattern_len-requires : goal.pattern_len-requires
pattern_len-requires g c = grind (arith, common_steps)

pub match_len-index-end-requires-clause-valid : goal.match_len-index-end-requires-clause-valid
match_len-index-end-requires-clause-valid g c = grind (arith, common_steps)

pub match_pattern-pattern-requires-clause-valid : goal.match_pattern-pattern-requires-clause-valid
match_pattern-pattern-requires-clause-valid g c = grind (arith, common_steps)
