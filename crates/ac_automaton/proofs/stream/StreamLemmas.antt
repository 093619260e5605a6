-- What the text since the last match determines about the matches of a stream, whatever is still read.
use Rattle.std.proofs.Common.{◌≡◌, ◌≢◌, ⊎_elim, ℕ, ◌+◌, ◌-◌, ◌<◌, ◌≤◌, max, true, false, List, [], ◌∷◌, ◌++◌, length, drop, Option, None, Some, Contains, slice_range, sym, ap, subst, refl, ◌∙◌, arith, length-append, length-drop, append_assoc, append-nil}
use Rattle.std.specs.List.{All, AllByRecursion}
use Rattle.std.proofs.lemmas.Bool.{cases_lt}
use Rattle.std.proofs.lemmas.List.{drop-drop, take_rest}
use Rattle.std.proofs.lemmas.List.Elements.{All-contains_itself, recursion_from_All}
use Rattle.ac_input.specs.declared.search.MatchKind.{MatchKind}
use Rattle.ac_input.specs.declared.search.MatchKind.TheVariants.{Standard}
use Rattle.ac_input.specs.Best.{IsBest}
use Rattle.ac_input.specs.Computed.{walk_after}
use Rattle.ac_input.specs.Dictionary.{Dictionary, IsLive, whole}
use Rattle.ac_input.specs.Laws.LiveLaws.{shifted}
use Rattle.ac_input.specs.Occurrence.{Search, Occurrence, Occurs, starting_at}
use Rattle.ac_input.specs.Walk.{IsPick, Here, Further, IsWalk}
use Rattle.ac_input.specs.Work.{longest, shortest}
use Rattle.ac_input.proofs.lemmas.BeginningLemmas.{slice_range-append}
use Rattle.ac_input.proofs.lemmas.LiveLemmas.{kind_cases, leftmost-no_later}
use Rattle.ac_input.proofs.lemmas.OrderLemmas.{slice_range-length}
use Rattle.ac_input.proofs.lemmas.ShiftLemmas.{back_by, occurs-shifted}
use Rattle.ac_input.proofs.lemmas.SpanLemmas.{best-of_rest, occurs-in_whole_of_span, occurs-later}
use Rattle.ac_input.proofs.lemmas.StateLemmas.{alive-shifted, new-behind, occurs-behind}
use Rattle.ac_input.proofs.lemmas.WalkLemmas.{occurs-earlier, occurs-whole, pick-within, walk_after-walk, walk_of-walk, walk-computed, walk-occurs}
use Rattle.ac_automaton.specs.Automaton.{Built}
use Rattle.ac_automaton.specs.InMemory.Replace.{matches_in}
use Rattle.ac_automaton.specs.Stream.Search.{ContinuesWalk, since_last}
use Rattle.ac_automaton.specs.Stream.{StreamProgress, IsDecided, NothingIsLive, cut_of, end_of, read_by, Picks}
use Rattle.ac_automaton.proofs.lemmas.CursorLemmas.{slice_range-split}
use Rattle.ac_automaton.proofs.lemmas.WalkLemmas.{begins-bound, occurs-bound}
use Rattle.ac_input.proofs.lemmas.UnusedLemmas.{best-fresh, pick-is_best}

-- ---- picks

-- where no pattern is empty, a pick doesn't depend on where the match before it ended
pub pick-any : {kind : MatchKind} {s : Search} {at : ℕ} {one : Option ℕ} (other : Option ℕ) {r : Option Occurrence}
    → s.end ≤ length s.haystack → 1 ≤ shortest s.patterns → IsPick kind s at one r → IsPick kind s at other r
pick-any {kind} {s} {at} other {r} inside some (Here h n) =
    Here h (best-fresh kind (starting_at s at) other r inside some h)
pick-any {kind} {s} {at} {one} other inside some (Further b h rep k) =
    absurd (best-fresh kind (starting_at s at) one b inside some h rep)

-- where no pattern is empty, a walk doesn't depend on where the match before it ended
pub walk-any : (kind : MatchKind) (s : Search) (at : ℕ) (one other : Option ℕ) (os : List Occurrence)
    → s.end ≤ length s.haystack → 1 ≤ shortest s.patterns → IsWalk kind s at one os → IsWalk kind s at other os
walk-any kind s at one other [] inside some h = pick-any other inside some h
walk-any kind s at one other (o ∷ os) inside some h = (pick-any other inside some h.0, h.1)

-- the rest of a longer text is a part of the text and what follows it
rest-split : (x more : List ℕ) (last at : ℕ) → last ≤ at → at ≤ length x
    → (tail : List ℕ) × (slice_range (x ++ more) last (length (x ++ more)) ≡ slice_range x last at ++ tail)
rest-split x more last at g h =
    let long = length-append x more in (
      slice_range (x ++ more) at (length (x ++ more)),
      slice_range-split (x ++ more) last at (length (x ++ more)) g (omega arith)
          ∙ ap (λ l. l ++ slice_range (x ++ more) at (length (x ++ more))) (slice_range-append x more g h),
    )

-- The best match of the rest of a text is the next pick.
pub pick-rest : (m : Dictionary) (y : List ℕ) (last : ℕ) (b : Occurrence) → last ≤ length y → 1 ≤ shortest m.patterns
    → IsBest m.kind (whole m (slice_range y last (length y)) false) (Some b)
    → IsPick m.kind (whole m y false) last (Some last) (Some (shifted last b))
pick-rest m y last b h some best =
    let there : IsBest m.kind (starting_at (whole m y false) last) (Some (shifted last b)) =
    (best-of_rest m.kind m (whole m y false) (Some b) (refl, refl) refl h (omega arith)).0 best in
    Here there
    (best-fresh m.kind (starting_at (whole m y false) last) (Some last) (Some (shifted last b)) (omega arith) some
    there)

-- A match that stays the best since the last match, however the text goes on, is the next pick.
pub pick-since : (m : Dictionary) (x more : List ℕ) (last at : ℕ) (b : Occurrence) → last ≤ at → at ≤ length x
    → 1 ≤ shortest m.patterns
    → ((tail : List ℕ) → IsBest m.kind (whole m (slice_range x last at ++ tail) false) (Some b))
    → IsPick m.kind (whole m (x ++ more) false) last (Some last) (Some (shifted last b))
pick-since m x more last at b g h some stays =
    let long = length-append x more in
    let tail = rest-split x more last at g h in
    pick-rest m (x ++ more) last b (omega arith) some
    (subst (λ l. IsBest m.kind (whole m l false) (Some b)) (sym tail.1) (stays tail.0))

-- Where the text since the last match has no match, the text has no further pick.
pub pick-none : (m : Dictionary) (x : List ℕ) (last : ℕ) → last ≤ length x
    → IsBest m.kind (whole m (slice_range x last (length x)) false) None
    → IsPick m.kind (whole m x false) last (Some last) None
pick-none m x last h quiet =
    Here ((best-of_rest m.kind m (whole m x false) None (refl, refl) refl h (omega arith)).0 quiet) (λ r. r)

-- ---- what comes later

-- an occurrence after the last match ends after the bytes that were searched
ends-behind : (m : Dictionary) (x more : List ℕ) (last at : ℕ) {o : Occurrence} → last ≤ at → at ≤ length x
    → IsBest Standard (whole m (slice_range x last at) false) None
    → Occurs (starting_at (whole m (x ++ more) false) last) o → at < o.end
ends-behind m x more last at {o} g h quiet occurs = ⊎_elim
    (λ (lt : at < o.end). lt)
    (λ (le : o.end ≤ at).
    let long = length-append x more in
    let here : Occurs (whole m (slice_range (x ++ more) last at) false) (back_by last o) =
    (occurs-in_whole_of_span m (refl, refl) g (omega arith) (omega arith) occurs le).0 in
    absurd (quiet (back_by last o)
    (subst (λ l. Occurs (whole m l false) (back_by last o)) (slice_range-append x more g h) here)))
    (cases_lt at o.end)

-- an occurrence after the last match begins at the cut or after it
pub begins-behind : (m : Dictionary) (x more : List ℕ) (last at : ℕ) {o : Occurrence} → last ≤ at → at ≤ length x
    → IsBest Standard (whole m (slice_range x last at) false) None
    → Occurs (starting_at (whole m (x ++ more) false) last) o → max last (at - max (longest m.patterns) 1) ≤ o.start
begins-behind m x more last at g h quiet occurs =
    let ends = ends-behind m x more last at g h quiet occurs in
    let bound = occurs-bound m (occurs-whole (omega arith) (λ t. absurd (let e : false ≡ true = t in cc)) occurs) in
    let w = occurs.within.0 in
    omega arith

-- Under a leftmost kind, where a byte since the last match is live, a later occurrence begins there or after, so at the
-- cut or after.
pub begins-live : (m : Dictionary) (x more : List ℕ) (last at live : ℕ) (o : Occurrence) → m.kind ≢ Standard → last ≤ at
    → at ≤ length x → IsLive m false (slice_range x last at) (Some live)
    → Occurs (starting_at (whole m (x ++ more) false) last) o → max last (at - max (longest m.patterns) 1) ≤ o.start
begins-live m x more last at live o leftmost g h alive occurs =
    let y = x ++ more in
    let long = length-append x more in
    let len = slice_range-length x last g h in
    let w = occurs.within in
    let tail = rest-split x more last at g h in
    let here : Occurs (whole m (slice_range y last (length y)) false) (back_by last o) =
    (occurs-in_whole_of_span m (refl, refl) (omega arith) (omega arith) (omega arith) occurs (omega arith)).0 in
    let there : Occurs (whole m (slice_range x last at ++ tail.0) false) (back_by last o) =
    subst (λ l. Occurs (whole m l false) (back_by last o)) tail.1 here in
    let late = occurs-behind tail.0 leftmost alive there in
    let bound = begins-bound m (drop live (slice_range x last at)) alive.0.begins in
    let rest = length-drop live (slice_range x last at) in
    omega arith

-- ---- to begin anew

-- Where no byte since the search last began is live, a later occurrence begins after these bytes.
begins-after : (m : Dictionary) (x more : List ℕ) (last at : ℕ) {o : Occurrence} → last ≤ at → at ≤ length x
    → IsBest m.kind (whole m (slice_range x last at) false) None → NothingIsLive m (slice_range x last at)
    → Occurs (starting_at (whole m (x ++ more) false) last) o → at ≤ o.start
begins-after m x more last at {o} g h quiet live occurs =
    let y = x ++ more in
    let long = length-append x more in
    let len = slice_range-length x last g h in
    let ends = ends-behind m x more last at g h quiet occurs in
    let w = occurs.within in
    let first : last ≤ o.start = w.0 in
    let tail = rest-split x more last at g h in
    let here : Occurs (whole m (slice_range y last (length y)) false) (back_by last o) =
    (occurs-in_whole_of_span m (refl, refl) (omega arith) (omega arith) (omega arith) occurs (omega arith)).0 in
    let there : Occurs (whole m (slice_range x last at ++ tail.0) false) (back_by last o) =
    subst (λ l. Occurs (whole m l false) (back_by last o)) tail.1 here in
    let late : length (slice_range x last at) ≤ o.start - last = new-behind false tail.0 live there (omega arith) in
    omega arith

-- a later occurrence is found by a search from there
occurs-after : (m : Dictionary) (x more : List ℕ) (last at : ℕ) {o : Occurrence} → last ≤ at → at ≤ length x
    → IsBest m.kind (whole m (slice_range x last at) false) None → NothingIsLive m (slice_range x last at)
    → Occurs (starting_at (whole m (x ++ more) false) last) o → Occurs (starting_at (whole m (x ++ more) false) at) o
occurs-after m x more last at g h quiet live occurs = record {
  within = (begins-after m x more last at g h quiet live occurs, occurs.within.1, occurs.within.2);
  same = occurs.same;
  anchor = λ t. absurd (let e : false ≡ true = t in cc);
}

-- the best match from there is the best match from where the search last began
best-anew : (m : Dictionary) (x more : List ℕ) (last at : ℕ) (r : Option Occurrence) → last ≤ at → at ≤ length x
    → IsBest m.kind (whole m (slice_range x last at) false) None → NothingIsLive m (slice_range x last at)
    → IsBest m.kind (starting_at (whole m (x ++ more) false) at) r
    → IsBest m.kind (starting_at (whole m (x ++ more) false) last) r
best-anew m x more last at None g h quiet live best =
    λ o occurs. best o (occurs-after m x more last at g h quiet live occurs)
best-anew m x more last at (Some b) g h quiet live best = (
  occurs-earlier (whole m (x ++ more) false) g (λ t. absurd (let e : false ≡ true = t in cc)) best.0,
  λ o occurs. best.1 o (occurs-after m x more last at g h quiet live occurs),
)

-- the pick from there is the pick from where the search last began
pick-anew : (m : Dictionary) (x more : List ℕ) (last : ℕ) {at : ℕ} {r : Option Occurrence} → 1 ≤ shortest m.patterns
    → last ≤ at → at ≤ length x → IsBest m.kind (whole m (slice_range x last at) false) None
    → NothingIsLive m (slice_range x last at) → IsPick m.kind (whole m (x ++ more) false) at (Some at) r
    → IsPick m.kind (whole m (x ++ more) false) last (Some last) r
pick-anew m x more last {at} {r} some g h quiet live (Here best n) =
    let long = length-append x more in
    let earlier = best-anew m x more last at r g h quiet live best in
    Here earlier
    (best-fresh m.kind (starting_at (whole m (x ++ more) false) last) (Some last) r (omega arith) some earlier)
pick-anew m x more last {at} some g h quiet live (Further b best rep k) =
    let long = length-append x more in
    absurd (best-fresh m.kind (starting_at (whole m (x ++ more) false) at) (Some at) b (omega arith) some best rep)

-- Where nothing is live, the walk from here continues the walk from where the search last began.
pub goes-anew : (s : StreamProgress Picks) → 1 ≤ shortest s.built.dictionary.patterns → s.last ≤ s.at
    → s.at ≤ length (read_by s) → IsBest s.built.dictionary.kind (whole s.built.dictionary (since_last s) false) None
    → NothingIsLive s.built.dictionary (since_last s) → ContinuesWalk s → ContinuesWalk (record s { last = s.at })
goes-anew s some g h quiet live goes = λ more rest follows walk. goes more rest follows (back more rest walk)
  where
    m : Dictionary
    m = s.built.dictionary

    back : (more : List ℕ) (rest : List Occurrence)
        → IsWalk m.kind (whole m (read_by s ++ more) false) s.at (Some s.at) rest
        → IsWalk m.kind (whole m (read_by s ++ more) false) s.last (Some s.last) rest
    back more [] walk = pick-anew m (read_by s) more s.last some g h quiet live walk
    back more (o ∷ os) walk = (pick-anew m (read_by s) more s.last some g h quiet live walk.0, walk.1)

-- some matches and one more end where the last one ends
pub end_of-push : (os : List Occurrence) (o : Occurrence) → end_of (os ++ o ∷ []) ≡ o.end
end_of-push [] o = refl
end_of-push (q ∷ []) o = refl
end_of-push (q ∷ (p ∷ os)) o = end_of-push (p ∷ os) o

-- A text isn't dead if nothing begins before a place in it and what follows from there isn't dead.
pub open-later : (m : Dictionary) (text : List ℕ) (from live : ℕ) → from ≤ length text
    → (m.kind ≢ Standard → (o : Occurrence) → Occurs (whole m text false) o → from ≤ o.start)
    → IsLive m false (drop from text) (Some live) → ¬ IsLive m false text None
open-later m text from live within behind alive dead = dead (from + live) ((alive-shifted within behind).0 alive.0)

-- nothing after a place is live where nothing of the text is live
pub nothing-later : (m : Dictionary) (text : List ℕ) (from live : ℕ) → from ≤ length text
    → (m.kind ≢ Standard → (o : Occurrence) → Occurs (whole m text false) o → from ≤ o.start) → NothingIsLive m text
    → IsLive m false (drop from text) (Some live) → NothingIsLive m (drop from text)
nothing-later m text from live within behind nothing alive =
    let there = (alive-shifted within behind).0 alive.0 in
    let late = nothing.1 (from + live) there in
    let long = length-drop from text in
    let inside = alive.0.within in
    let same : live ≡ length (drop from text) = omega arith in
    subst (λ n. IsLive m false (drop from text) (Some n)) same alive

-- ---- what is decided

-- if a property holds of each element that a list contains, it holds of all
pub all-from : {X : Type 0} (P : X → Type 0) (xs : List X) → ((x : X) → Contains xs x → P x) → All P xs
all-from P xs h = λ k d lt. h _ (All-contains_itself xs k d lt)

-- the walk of a text is its matches
pub walk-matches : (b : Built) (x : List ℕ) (os : List Occurrence)
    → IsWalk b.dictionary.kind (whole b.dictionary x false) 0 None os → matches_in b x ≡ os
walk-matches b x os walk = sym (walk-computed b.dictionary.kind (whole b.dictionary x false) 0 None (omega arith) walk)

-- The matches still to come begin at the cut or after it.
pub decided-from : (s : StreamProgress Picks) (found : Option Occurrence) (live : ℕ) → s.last ≤ s.at
    → s.at ≤ length (read_by s) → IsBest s.built.dictionary.kind (whole s.built.dictionary (since_last s) false) found
    → (s.built.dictionary.kind ≡ Standard → found ≡ None)
    → IsLive s.built.dictionary false (since_last s) (Some live) → ContinuesWalk s → IsDecided s
decided-from s found live g h told quiet alive goes = λ more follows.
    let m = s.built.dictionary in
    let y = read_by s ++ more in
    let long = length-append (read_by s) more in
    let w = whole m y false in
    let rest = walk_after m.kind w s.last (Some s.last) in
    let walk = walk_after-walk m.kind w s.last (Some s.last) (omega arith) in
    let begins : (o : Occurrence) → Occurs (starting_at w s.last) o → cut_of s ≤ o.start = λ o occurs. ⊎_elim
    (λ (standard : m.kind ≡ Standard).
    begins-behind m (read_by s) more s.last s.at g h
    (subst (λ r. IsBest m.kind (whole m (since_last s) false) r) (quiet standard) told) occurs)
    (λ (leftmost : m.kind ≢ Standard). begins-live m (read_by s) more s.last s.at live o leftmost g h alive occurs)
    (kind_cases m.kind) in (
      rest,
      walk-matches s.built y (s.given ++ rest) (goes more rest follows walk),
      all-from (λ o. cut_of s ≤ o.start) rest
          (λ o in_. begins o (walk-occurs m.kind w s.last (Some s.last) rest o refl walk in_)),
    )

-- one more match continues the walk
pub goes-match : (s : StreamProgress Picks) (o : Occurrence) (looked : ℕ) → ContinuesWalk s
    → ((more : List ℕ) → (s.closed ≡ true → more ≡ [])
    → IsPick s.built.dictionary.kind (whole s.built.dictionary (read_by s ++ more) false) s.last (Some s.last) (Some o))
    → ContinuesWalk (record s { given = s.given ++ o ∷ []; at = o.end; last = o.end; looked = looked })
goes-match s o looked goes pick = λ more rest follows walk.
    subst (λ l. IsWalk s.built.dictionary.kind (whole s.built.dictionary (read_by s ++ more) false) 0 None l)
    (sym (append_assoc s.given (o ∷ []) rest)) (goes more (o ∷ rest) follows (pick more follows, walk))

-- where no match is left to find, all were returned
pub all-given : (s : StreamProgress Picks) → s.last ≤ length (read_by s)
    → IsBest s.built.dictionary.kind
    (whole s.built.dictionary (slice_range (read_by s) s.last (length (read_by s))) false) None → ContinuesWalk s
    → s.given ≡ matches_in s.built (read_by s)
all-given s h quiet goes =
    let none = append-nil (read_by s) in
    let kind = s.built.dictionary.kind in
    let pick : IsPick kind (whole s.built.dictionary (read_by s ++ []) false) s.last (Some s.last) None = subst
    (λ l. IsPick kind (whole s.built.dictionary l false) s.last (Some s.last) None) (sym none)
    (pick-none s.built.dictionary (read_by s) s.last h quiet) in
    let walk = subst (λ l. IsWalk kind (whole s.built.dictionary l false) 0 None (s.given ++ [])) none
    (goes [] [] (λ _. refl) pick) in
    sym (walk-matches s.built (read_by s) (s.given ++ []) walk ∙ append-nil s.given)

-- where one more match is the next pick, not all were returned
pub not-all : (s : StreamProgress Picks) (o : Occurrence) → ContinuesWalk s
    → IsPick s.built.dictionary.kind (whole s.built.dictionary (read_by s ++ []) false) s.last (Some s.last) (Some o)
    → ¬ (s.given ≡ matches_in s.built (read_by s))
not-all s o goes pick all =
    let m = s.built.dictionary in
    let w = whole m (read_by s ++ []) false in
    let rest = walk_after m.kind w o.end (Some o.end) in
    let walk = walk_after-walk m.kind w o.end (Some o.end) (omega arith) in
    let is : matches_in s.built (read_by s ++ []) ≡ s.given ++ o ∷ rest =
    walk-matches s.built (read_by s ++ []) (s.given ++ o ∷ rest) (goes [] (o ∷ rest) (λ _. refl) (pick, walk)) in
    let same : s.given ≡ s.given ++ o ∷ rest = all ∙ ap (matches_in s.built) (sym (append-nil (read_by s))) ∙ is in
    let both = length-append s.given (o ∷ rest) in
    absurd (omega (arith, ap length same))

-- ---- the lists of states

-- ---- what lies between the last match and where the search began anew

-- where the walk stands after some picks
pub stands_after : ℕ → List Occurrence → ℕ
stands_after at [] = at
stands_after at (o ∷ os) = stands_after o.end os

-- a walk stands where its last match ends
stands_after-end : (at : ℕ) (o : Occurrence) (os : List Occurrence) → stands_after at (o ∷ os) ≡ end_of (o ∷ os)
unfolding stands_after
stands_after-end at o [] = refl
stands_after-end at o (q ∷ os) = stands_after-end o.end q os

-- a walk from the beginning stands where its matches end
pub stands_after-given : (os : List Occurrence) → stands_after 0 os ≡ end_of os
unfolding stands_after
stands_after-given [] = refl
stands_after-given (o ∷ os) = stands_after-end 0 o os

-- the rest of a walk is a walk from where its first picks end
pub walk-rest : (kind : MatchKind) (w : Search) (at : ℕ) (last : Option ℕ) (given rest : List Occurrence)
    → IsWalk kind w at last (given ++ rest) → (before : Option ℕ) × IsWalk kind w (stands_after at given) before rest
unfolding stands_after
walk-rest kind w at last [] rest walk = (last, walk)
walk-rest kind w at last (o ∷ os) rest walk = walk-rest kind w o.end (Some o.end) os rest walk.1

-- after some picks a walk stands within its text
pub stands-within : (kind : MatchKind) (w : Search) (at : ℕ) (last : Option ℕ) (os rest : List Occurrence) → at ≤ w.end
    → IsWalk kind w at last (os ++ rest) → stands_after at os ≤ w.end
unfolding stands_after
stands-within kind w at last [] rest le walk = le
stands-within kind w at last (o ∷ os) rest le walk =
    stands-within kind w o.end (Some o.end) os rest (pick-within walk.0).2 walk.1

-- Under a leftmost kind, where all later matches begin at a place or after it, so does every later occurrence.
rest-behind : (kind : MatchKind) (w : Search) (at : ℕ) (last : Option ℕ) (rest : List Occurrence) (place : ℕ)
    {o : Occurrence} → kind ≢ Standard → w.end ≤ length w.haystack → 1 ≤ shortest w.patterns
    → IsWalk kind w at last rest → AllByRecursion (λ q. place ≤ q.start) rest
    → Occurs (starting_at w at) o → place ≤ o.start
rest-behind kind w at last [] place {o} leftmost inside some walk begin occurs =
    absurd (pick-is_best inside some walk o occurs)
rest-behind kind w at last (q ∷ qs) place {o} leftmost inside some walk begin occurs =
    let best = pick-is_best inside some walk.0 in
    let no_later = leftmost-no_later kind q o leftmost (best.1 o occurs) in
    let first : place ≤ q.start = begin.0 in
    omega arith

-- Under a leftmost kind, an occurrence after the last match returned begins where the search last began anew, or later.
pub nothing-between : (s : StreamProgress Picks) {o : Occurrence} → IsDecided s
    → 1 ≤ shortest s.built.dictionary.patterns → end_of s.given ≤ length (read_by s)
    → s.built.dictionary.kind ≢ Standard → Occurs (whole s.built.dictionary (drop (end_of s.given) (read_by s)) false) o
    → s.last - end_of s.given ≤ o.start
nothing-between s {o} decided some within leftmost occurs =
    let m = s.built.dictionary in
    let x = read_by s in
    let w = whole m x false in
    let more = decided [] (λ _. refl) in
    let is : matches_in s.built x ≡ s.given ++ more.0 = ap (matches_in s.built) (sym (append-nil x)) ∙ more.1 in
    let all = subst (IsWalk m.kind w 0 None) is (walk_of-walk m.kind w (omega arith)) in
    let rest = walk-rest m.kind w 0 None s.given more.0 all in
    let there = subst (λ n. IsWalk m.kind w n rest.0 more.0) (stands_after-given s.given) rest.1 in
    let begin = recursion_from_All (λ (q : Occurrence). cut_of s ≤ q.start) more.0 more.2 in
    let inner = occurs-shifted m within occurs in
    let here : Occurs (starting_at w (end_of s.given)) (shifted (end_of s.given) o) =
    (occurs-later refl (omega arith)).0 (inner, omega arith) in
    let late = rest-behind m.kind w (end_of s.given) rest.0 more.0 (cut_of s) leftmost
    (omega arith) some there begin here in
    omega arith

-- the text after the search last began anew is a part of the text after the last match
later-part : (s : StreamProgress Picks) → end_of s.given ≤ s.last
    → drop (s.last - end_of s.given) (drop (end_of s.given) (read_by s))
    ≡ slice_range (read_by s) s.last (length (read_by s))
later-part s le =
    let n : end_of s.given + (s.last - end_of s.given) ≡ s.last = omega arith in
    drop-drop (s.last - end_of s.given) (end_of s.given) (read_by s) ∙ ap (λ k. drop k (read_by s)) n
    ∙ sym (take_rest (read_by s) s.last)

module _ (s : StreamProgress Picks) (live : ℕ) (decided : IsDecided s) (some : 1 ≤ shortest s.built.dictionary.patterns)
    (behind : end_of s.given ≤ s.last) (within : s.last ≤ length (read_by s))
    (alive : IsLive s.built.dictionary false (slice_range (read_by s) s.last (length (read_by s))) (Some live)) where
  -- what of the text from there on is live
  part-alive : IsLive s.built.dictionary false (drop (s.last - end_of s.given) (drop (end_of s.given) (read_by s)))
      (Some live)
  part-alive = subst (λ l. IsLive s.built.dictionary false l (Some live)) (sym (later-part s behind)) alive

  inside : s.last - end_of s.given ≤ length (drop (end_of s.given) (read_by s))
  inside = let long = length-drop (end_of s.given) (read_by s) in omega (arith, behind, within)

  between : s.built.dictionary.kind ≢ Standard → (o : Occurrence)
      → Occurs (whole s.built.dictionary (drop (end_of s.given) (read_by s)) false) o
      → s.last - end_of s.given ≤ o.start
  between leftmost o occurs = nothing-between s decided some (omega (arith, behind, within)) leftmost occurs

  -- where the text after the search last began anew isn't dead, the text after the last match isn't
  pub given-open : ¬ IsLive s.built.dictionary false (drop (end_of s.given) (read_by s)) None
  given-open =
      open-later s.built.dictionary (drop (end_of s.given) (read_by s)) (s.last - end_of s.given) live inside between
      part-alive

  -- where nothing is live after the last match, nothing is live after the search last began anew
  pub given-anew : NothingIsLive s.built.dictionary (drop (end_of s.given) (read_by s))
      → NothingIsLive s.built.dictionary (slice_range (read_by s) s.last (length (read_by s)))
  given-anew nothing =
      subst (NothingIsLive s.built.dictionary) (later-part s behind)
      (nothing-later s.built.dictionary (drop (end_of s.given) (read_by s)) (s.last - end_of s.given) live inside
      between nothing part-alive)
