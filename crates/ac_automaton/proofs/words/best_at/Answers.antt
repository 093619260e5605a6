-- The list of a state is looked at, one entry after another.
use Rattle.std.proofs.Common.{◌≡◌, ℕ, ◌+◌, ◌-◌, ◌<◌, ◌≤◌, max, ⊎_elim, length, sym, ap, subst, ◌∙◌, arith}
use Rattle.std.proofs.lemmas.Grind.{common_steps}
use Rattle.std.proofs.lemmas.Bool.{cases_lt, false≢true}
use Rattle.ac_input.specs.declared.search.Anchored.TheVariants.{No}
use Rattle.ac_input.specs.Best.{IsLeast}
use Rattle.ac_input.specs.Tells.{ending_at}
use Rattle.ac_input.specs.Word.{is_whole_word}
use Rattle.ac_input.specs.Work.{longest}
use Rattle.ac_input.proofs.lemmas.WordLemmas.{occurs-reach}
use Rattle.ac_automaton.specs.Words.{BetterOf, text_from}
use Rattle.ac_automaton.proofs.lemmas.CursorLemmas.{list-none}
use Rattle.ac_automaton.proofs.words.WordPlaceLemmas.{SeenFirst, entry-occurs, seen-all, seen-more, seen-none, seen-other}
use Rattle.ac_automaton.proofs.words.best_at.Given.{Over}
use Rattle.ac_automaton.proofs.words.best_at.Goals as goal
use Rattle.ac_automaton.proofs.words.best_at.Goals.{After-new-found, After-pattern_len, then-is_whole_word, else-is_whole_word}

pub returns-then-not-is_match : goal.returns-then-not-is_match
returns-then-not-is_match g c x is stands =
    let a = c.args.automaton.now in
    let p = c.args.place.now in
    let ns = g.A.Automaton.matches a p.sid in
    let none = ap length (list-none ns (λ some. false≢true (c.if-not-is_match.ensures.1 some))) in
    seen-all (g.A.Automaton.built a).dictionary x p.last p.at stands.place.order stands.place.within c.requires.standard ns
    (g.met.A.Automaton.tells a No _ p.sid stands.place.reads) p.kind p.best 0 (omega arith)
    (seen-none (g.A.Automaton.built a).dictionary x p.last p.at ns p.kind p.best stands.best)

pub loop-index-init : goal.loop-index-init
loop-index-init g c x is stands =
    let a = c.args.automaton.now in
    let p = c.args.place.now in
    seen-none (g.A.Automaton.built a).dictionary x p.last p.at (g.A.Automaton.matches a p.sid) p.kind p.best stands.best

-- the pattern of an entry is no longer than what was read since the search last began anew, and than the longest one
fits : (g : Over) (c : After-pattern_len g)
    → (c.pattern_len.result ≤ c.args.place.now.at - c.args.place.now.last)
    × (c.pattern_len.result ≤ longest (g.A.Automaton.built c.args.automaton.now).dictionary.patterns)
fits g c =
    let a = c.args.automaton.now in
    let p = c.args.place.now in
    let stands = c.requires.stands.2 in
    let lies = entry-occurs (g.A.Automaton.built a).dictionary c.requires.stands.0 p.last p.at stands.place.order
    stands.place.within c.requires.standard (g.A.Automaton.matches a p.sid)
    (g.met.A.Automaton.tells a No _ p.sid stands.place.reads) c.loop-index.index c.match_pattern-pattern.result
    c.match_pattern-pattern.ensures.value in
    let len = c.pattern_len.ensures in
    let few = lies.0 in
    let reach = occurs-reach {s = text_from (g.A.Automaton.built a).dictionary c.requires.stands.0 p.last}
    (let within = stands.place.within in omega arith) lies.1 in
    (omega arith, omega arith)

pub overflow_sub-start : goal.overflow_sub-start
overflow_sub-start g c =
    let few = (fits g (goal.at.overflow_sub-start g c).After-pattern_len).0 in
    omega arith

-- the byte before what ends where the search stands is held
begins-held : (from last at long len : ℕ) {start : ℕ} → (0 < from → from < max last (at - max long 1)) → last ≤ at
    → (len ≤ at - last) × (len ≤ long) → start ≡ at - len → 0 < start → from < start
begins-held from last at long len before order short begins some =
    ⊎_elim
    (λ (past : 0 < from). let held = before past in omega (arith, held, order, short.0, short.1, begins))
    (λ (first : from ≤ 0). omega arith)
    (cases_lt 0 from)

pub is_whole_word-requires-clause-before : goal.is_whole_word-requires-clause-before
is_whole_word-requires-clause-before g c some =
    begins-held c.args.window.from c.args.place.now.last c.args.place.now.at
    (longest (g.A.Automaton.built c.args.automaton.now).dictionary.patterns) c.pattern_len.result
    c.requires.stands.2.place.before c.requires.stands.2.place.order
    (fits g (goal.at.is_whole_word-requires-clause-before g c).After-pattern_len) (ap (λ o. o.start) c.new-found.ensures) some

-- the match of an entry
found_is : (g : Over) (c : After-new-found g)
    → c.new-found.result
    ≡ ending_at (g.A.Automaton.built c.args.automaton.now).dictionary c.args.place.now.at c.match_pattern-pattern.result
found_is g c =
    let len = c.pattern_len.ensures in
    c.new-found.ensures
    ∙ ap (λ n. record { pattern = c.match_pattern-pattern.result; start = c.args.place.now.at - n; end = c.args.place.now.at }) len

pub loop-index-preserved : goal.loop-index-preserved
loop-index-preserved g c x is stands =
    let a = c.args.automaton.now in
    let m = (g.A.Automaton.built a).dictionary in
    let p = c.args.place.now in
    let ns = g.A.Automaton.matches a p.sid in
    let n = c.match_pattern-pattern.result in
    let found = found_is g (goal.at.loop-index-preserved g c).After-new-found in
    let entry = c.match_pattern-pattern.ensures.value in
    let best = c.loop-index.invariant x is stands in
    let whole : c.is_whole_word.result ≡ is_whole_word x (ending_at m p.at n) =
    c.is_whole_word.ensures x is ∙ ap (is_whole_word x) found in
    elim c.if-is_whole_word.branch [
      | then-is_whole_word w ↦
          subst (λ r. IsLeast p.kind (SeenFirst m x p.last p.at ns (c.loop-index.index + 1)) r) (sym w.best-is)
          (seen-more m x p.last p.at ns p.kind c.loop-index.best c.loop-index.index n w.better.result entry
          (sym whole ∙ w.if-is_whole_word.true)
          (subst (λ o. BetterOf p.kind c.loop-index.best o w.better.result) found w.better.ensures) best)
      | else-is_whole_word w ↦
          subst (λ r. IsLeast p.kind (SeenFirst m x p.last p.at ns (c.loop-index.index + 1)) r) (sym w.best-is)
          (seen-other m x p.last p.at ns p.kind c.loop-index.best c.loop-index.index n entry
          (sym whole ∙ w.if-is_whole_word.false) best)
    ]

pub returns : goal.returns
returns g c x is stands =
    let a = c.args.automaton.now in
    let p = c.args.place.now in
    let len = c.match_len-index-end.ensures in
    seen-all (g.A.Automaton.built a).dictionary x p.last p.at stands.place.order stands.place.within c.requires.standard
    (g.A.Automaton.matches a p.sid) (g.met.A.Automaton.tells a No _ p.sid stands.place.reads) p.kind c.loop-index.best
    c.loop-index.index (let t = c.loop-index-test.false in omega arith) (c.loop-index.invariant x is stands)

pub is_match-requires : goal.is_match-requires
is_match-requires g c = grind (arith, common_steps)

pub match_len-index-end-requires-clause-valid : goal.match_len-index-end-requires-clause-valid
match_len-index-end-requires-clause-valid g c = grind (arith, common_steps)

pub match_pattern-pattern-requires-clause-valid : goal.match_pattern-pattern-requires-clause-valid
match_pattern-pattern-requires-clause-valid g c = grind (arith, common_steps)
