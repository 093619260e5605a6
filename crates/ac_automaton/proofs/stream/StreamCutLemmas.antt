-- What a search of a stream has returned: the matches of what was read up to its cut, and none after it.
use Rattle.std.proofs.Common.{◌≡◌, ◌≢◌, Greater, ℕ, ◌<◌, ◌≤◌, false, List, [], ◌∷◌, ◌++◌, length, take, drop, Option, Some, None, Contains, sym, ap, subst, arith, take-append-drop, ⊎_elim}
use Rattle.std.specs.List.{All, AllByRecursion}
use Rattle.std.proofs.lemmas.List.{length-take-le}
use Rattle.std.proofs.lemmas.List.Elements.{All-contains, Contains-append_cases, recursion_from_All}
use Rattle.ac_input.specs.declared.search.MatchKind.{MatchKind}
use Rattle.ac_input.specs.declared.search.MatchKind.TheVariants.{Standard}
use Rattle.ac_input.specs.Best.{preference}
use Rattle.ac_input.specs.Occurrence.{Search, Occurrence}
use Rattle.ac_input.specs.Dictionary.{whole}
use Rattle.ac_input.specs.Walk.{IsWalk}
use Rattle.ac_input.specs.Cut.{IsCut}
use Rattle.ac_input.specs.Work.{shortest}
use Rattle.ac_input.specs.Laws.BeginningLaws.{longer}
use Rattle.ac_input.proofs.lemmas.ContainsLemmas.{Contains-nil, Contains-cases}
use Rattle.ac_input.proofs.lemmas.LiveLemmas.{kind_cases, leftmost-no_later, standard-no_later}
use Rattle.ac_input.proofs.lemmas.WalkLemmas.{walk_of-walk, walk-unique}
use Rattle.ac_input.proofs.lemmas.BeginningLemmas.{longer-occurs, occurs-longer}
use Rattle.ac_automaton.specs.Automaton.{Built}
use Rattle.ac_automaton.specs.InMemory.Replace.{LieInOrder, matches_in}
use Rattle.ac_input.proofs.lemmas.UnusedLemmas.{best-is_pick, occurs-some, pick-is_best}

-- no occurrence ends where the best one begins, or before
first-behind : (kind : MatchKind) (r q : Occurrence) (place : ℕ) → preference kind r q ≢ Greater → place ≤ r.start
    → r.start < r.end → q.start < q.end → q.end ≤ place → ⊥
first-behind kind r q place best later some other early = ⊎_elim
    (λ (standard : kind ≡ Standard). let le =
    standard-no_later r q (subst (λ k. preference k r q ≢ Greater) standard best) in absurd (omega arith))
    (λ (leftmost : kind ≢ Standard). let le = leftmost-no_later kind r q leftmost best in absurd (omega arith))
    (kind_cases kind)

-- The walk of the front of a text is the front of its walk, if each other match begins after it.
walk-front : (kind : MatchKind) (s : Search) (more : List ℕ) (end at : ℕ) (last : Option ℕ) (patterns : ℕ)
    (given rest : List Occurrence) → s.end ≤ length s.haystack → s.end ≤ end → end ≤ length (s.haystack ++ more)
    → 1 ≤ shortest s.patterns
    → IsWalk kind (longer s more end) at last (given ++ rest) → LieInOrder patterns s.end at given
    → AllByRecursion (λ o. s.end ≤ o.start) rest → IsWalk kind s at last given
walk-front kind s more end at last patterns [] [] inside le all some h lies later =
    best-is_pick inside some (λ q occurs. pick-is_best all some h q (occurs-longer more inside le occurs))
walk-front kind s more end at last patterns [] (r ∷ rs) inside le all some h lies later =
    best-is_pick inside some (λ q occurs.
    let best = pick-is_best all some h.0 in
    let filled = occurs-some all some best.0 in
    let other = occurs-some inside some occurs in
    first-behind kind r q s.end (best.1 q (occurs-longer more inside le occurs)) later.0 filled other occurs.within.2)
walk-front kind s more end at last patterns (o ∷ os) rest inside le all some h lies later =
    let best = pick-is_best all some h.0 in (
      best-is_pick inside some
          (longer-occurs more inside lies.3 best.0, λ q occurs. best.1 q (occurs-longer more inside le occurs)),
      walk-front kind s more end o.end (Some o.end) patterns os rest inside le all some h.1 lies.4 later,
    )

-- the matches of a text are its walk from the beginning
pub matches-walk : (b : Built) (x : List ℕ)
    → IsWalk b.dictionary.kind (whole b.dictionary x false) 0 None (matches_in b x)
matches-walk b x = walk_of-walk b.dictionary.kind (whole b.dictionary x false) (omega arith)

-- The matches returned are those of the text up to a place, if all other matches begin there or later.
pub matches-front : (b : Built) (x : List ℕ) (cut patterns : ℕ) (given rest : List Occurrence)
    → 1 ≤ shortest b.dictionary.patterns → cut ≤ length x
    → matches_in b x ≡ given ++ rest → LieInOrder patterns cut 0 given → All (λ o. cut ≤ o.start) rest
    → matches_in b (take cut x) ≡ given
matches-front b x cut patterns given rest some within is lies begin =
    let m = b.dictionary in
    let front = take cut x in
    let s = whole m front false in
    let len : length front ≡ cut = length-take-le cut x within in
    let split : front ++ drop cut x ≡ x = take-append-drop cut x in
    let all = subst (IsWalk m.kind (whole m x false) 0 None) is (matches-walk b x) in
    let long : IsWalk m.kind (longer s (drop cut x) (length x)) 0 None (given ++ rest) =
    subst (λ t. IsWalk m.kind (record s { haystack = t; end = length x }) 0 None (given ++ rest)) (sym split) all in
    let order : LieInOrder patterns (length front) 0 given =
    subst (λ n. LieInOrder patterns n 0 given) (sym len) lies in
    let later : AllByRecursion (λ o. length front ≤ o.start) rest = subst (λ n. AllByRecursion (λ o. n ≤ o.start) rest)
    (sym len) (recursion_from_All (λ (o : Occurrence). cut ≤ o.start) rest begin) in
    walk-unique m.kind s 0 None (omega arith) (matches_in b front) given (matches-walk b front)
    (walk-front m.kind s (drop cut x) (length x) 0 None patterns given rest (omega arith) (omega arith)
    (omega (arith, ap length split)) some long order later)

-- occurrences that lie in order within a text end there
lies-within : (patterns len at : ℕ) (os : List Occurrence) (o : Occurrence) → LieInOrder patterns len at os
    → Contains os o → o.end ≤ len
lies-within patterns len at [] o lies has = absurd (Contains-nil has)
lies-within patterns len at (q ∷ os) o lies has =
    ⊎_elim (λ (same : q ≡ o). subst (λ r. r.end ≤ len) same lies.3)
    (λ (more : Contains os o). lies-within patterns len q.end os o lies.4 more) (Contains-cases os has)

-- a place that all matches before it end before, and all others begin after, is a cut
pub matches-cut : (b : Built) (x : List ℕ) (cut patterns : ℕ) (given rest : List Occurrence) → cut ≤ length x
    → matches_in b x ≡ given ++ rest → LieInOrder patterns cut 0 given → All (λ o. cut ≤ o.start) rest
    → IsCut b.dictionary x cut
matches-cut b x cut patterns given rest within is lies begin = (
  within,
  λ o has early.
      let there : Contains (given ++ rest) o = subst (λ qs. Contains qs o) is has in
      ⊎_elim (λ (first : Contains given o). lies-within patterns cut 0 given o lies first)
      (λ (second : Contains rest o). let late : cut
      ≤ o.start = All-contains (λ (q : Occurrence). cut ≤ q.start) rest o begin second in absurd (omega arith))
      (Contains-append_cases given rest o there),
)
