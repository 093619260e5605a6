-- The next pick and the walk are unique, and are the computed ones. The picks lie apart. `AmongLemmas` proves it whichever
-- occurrences count; here every one does.
use Rattle.std.proofs.Common.{◌≡◌, ◌∷◌, ℕ, ◌<◌, ◌≤◌, false, List, [], length, Option, Some, None, IsTrue, Contains, sym, ◌∙◌, arith}
use Rattle.std.proofs.lemmas.Bool.{false≢true}
use Rattle.ac_input.specs.declared.search.MatchKind.{MatchKind}
use Rattle.ac_input.specs.Occurrence.{Search, Occurrence, Occurs, starting_at}
use Rattle.ac_input.specs.Walk.{IsPick, IsWalk}
use Rattle.ac_input.specs.Computed.{best_of, pick_of, walk_after, walk_of}
use Rattle.ac_input.specs.Laws.{IsApart}
use Rattle.ac_input.proofs.lemmas.AmongLemmas.{all-counted, occurs-earlier, among-occurs, among-pick, among-pick_one, among-pick_unique, among-within, among-no_pick, among-computed_none, among-none, among-some, among-walk, among-walk_one, among-walk_unique, among-apart, among-somewhere, among-free}
pub use Rattle.ac_input.proofs.lemmas.AmongLemmas.{occurs-earlier, walk_from-none, walk_from-some}

-- a walk that stands at a place has at most one next pick
pub pick-unique : {kind : MatchKind} {s : Search} {at : ℕ} {last : Option ℕ} → s.end ≤ length s.haystack
    → {a b : Option Occurrence} → IsPick kind s at last a → IsPick kind s at last b → a ≡ b
pick-unique inside g h = among-pick_unique all-counted inside g h

-- the computed pick is the next pick
pub pick_of-pick : {kind : MatchKind} {s : Search} {at : ℕ} {last : Option ℕ} → s.end ≤ length s.haystack
    → IsPick kind s at last (pick_of kind s at last)
pick_of-pick inside = among-pick all-counted inside

-- and the only one
pub pick-computed : {kind : MatchKind} {s : Search} {at : ℕ} {last : Option ℕ} → s.end ≤ length s.haystack
    → {r : Option Occurrence} → IsPick kind s at last r → r ≡ pick_of kind s at last
pick-computed {kind} {s} {at} {last} inside {r} h = (among-pick_one all-counted kind s at last r inside).0 h

-- what equals the computed pick is the next pick
pub pick-from_computed : {kind : MatchKind} {s : Search} {at : ℕ} {last : Option ℕ} → s.end ≤ length s.haystack
    → {r : Option Occurrence} → r ≡ pick_of kind s at last → IsPick kind s at last r
pick-from_computed {kind} {s} {at} {last} inside {r} e = (among-pick_one all-counted kind s at last r inside).1 e

-- there is at most one walk from a place
pub walk-unique : (kind : MatchKind) (s : Search) (at : ℕ) (last : Option ℕ) → s.end ≤ length s.haystack
    → (os qs : List Occurrence) → IsWalk kind s at last os → IsWalk kind s at last qs → os ≡ qs
walk-unique kind s at last inside os qs g h = among-walk_unique all-counted kind s at last inside os qs g h

-- the computed best occurs
pub best_of-occurs : (kind : MatchKind) {s : Search} {o : Occurrence} → best_of kind s ≡ Some o → Occurs s o
best_of-occurs kind e = among-occurs all-counted kind e

-- where there is no next pick the walk is over
pub walk_after-none : {kind : MatchKind} {s : Search} {at : ℕ} {last : Option ℕ} → s.end ≤ length s.haystack
    → IsPick kind s at last None → walk_after kind s at last ≡ []
walk_after-none inside h = among-none all-counted inside h

-- where there is a next pick, the walk goes on at its end
pub walk_after-some : {kind : MatchKind} {s : Search} {at : ℕ} {last : Option ℕ} {o : Occurrence}
    → s.end ≤ length s.haystack → IsPick kind s at last (Some o)
    → walk_after kind s at last ≡ o ∷ walk_after kind s o.end (Some o.end)
walk_after-some inside h = among-some all-counted inside h

-- a walk from after the span is empty
pub walk_after-nothing : (kind : MatchKind) (s : Search) {at : ℕ} (last : Option ℕ) → s.end < at
    → walk_after kind s at last ≡ []
walk_after-nothing kind s {at} last lt =
    among-computed_none all-counted kind s at last (among-no_pick all-counted kind s at last lt)

-- the computed walk from a place is the walk from there
pub walk_after-walk : (kind : MatchKind) (s : Search) (at : ℕ) (last : Option ℕ) → s.end ≤ length s.haystack
    → IsWalk kind s at last (walk_after kind s at last)
walk_after-walk kind s at last inside = among-walk all-counted kind s at last inside

-- the computed whole walk is the whole walk
pub walk_of-walk : (kind : MatchKind) (s : Search) → s.end ≤ length s.haystack
    → IsWalk kind s s.start None (walk_of kind s)
walk_of-walk kind s inside = walk_after-walk kind s s.start None inside

-- and the only one
pub walk-computed : (kind : MatchKind) (s : Search) (at : ℕ) (last : Option ℕ) → s.end ≤ length s.haystack
    → {os : List Occurrence} → IsWalk kind s at last os → os ≡ walk_after kind s at last
walk-computed kind s at last inside {os} h = (among-walk_one all-counted kind s at last os inside).0 h

-- what equals the computed walk is the walk
pub walk-from_computed : (kind : MatchKind) (s : Search) (at : ℕ) (last : Option ℕ) → s.end ≤ length s.haystack
    → {os : List Occurrence} → os ≡ walk_after kind s at last → IsWalk kind s at last os
walk-from_computed kind s at last inside {os} e = (among-walk_one all-counted kind s at last os inside).1 e

-- what occurs from a place on occurs in the whole search, unless the search is anchored elsewhere
pub occurs-whole : {s : Search} {from : ℕ} {o : Occurrence} → s.start ≤ from → (IsTrue s.anchored → s.start ≡ from)
    → Occurs (starting_at s from) o → Occurs s o
occurs-whole {s} le a h = occurs-earlier s le a h

-- the next pick of a walk lies in the span, and starts at or after the place of the walk
pub pick-within : {kind : MatchKind} {s : Search} {at : ℕ} {last : Option ℕ} {o : Occurrence}
    → IsPick kind s at last (Some o) → (at ≤ o.start) × (o.start ≤ o.end) × (o.end ≤ s.end)
pick-within h = among-within all-counted h

-- the picks of a walk lie apart
pub walk-rising : (kind : MatchKind) (s : Search) (at : ℕ) (last : Option ℕ) → s.end ≤ length s.haystack
    → (os : List Occurrence) → IsWalk kind s at last os → IsApart os
walk-rising kind s at last inside os h = among-apart all-counted kind s at last os inside h

-- the first pick begins at the place of the walk or later
pub walk-first : (kind : MatchKind) (s : Search) (at : ℕ) (last : Option ℕ) (o : Occurrence) (os : List Occurrence)
    → IsWalk kind s at last (o ∷ os) → at ≤ o.start
walk-first kind s at last o os h = (pick-within h.0).0

-- each pick occurs in the search from some place on, at or after the place of the walk
pub walk-occurs_somewhere : (kind : MatchKind) (s : Search) {at : ℕ} (last : Option ℕ) (os : List Occurrence)
    {o : Occurrence} → IsWalk kind s at last os → Contains os o
    → (from : ℕ) × (at ≤ from) × Occurs (starting_at s from) o
walk-occurs_somewhere kind s last os h c = among-somewhere all-counted kind s last os h c

-- each pick lies in the span, and starts at or after the place of the walk
pub walk-within : (kind : MatchKind) (s : Search) (at : ℕ) (last : Option ℕ) (os : List Occurrence) (o : Occurrence)
    → IsWalk kind s at last os → Contains os o → (at ≤ o.start) × (o.start ≤ o.end) × (o.end ≤ s.end)
walk-within kind s at last os o h c =
    let r = walk-occurs_somewhere kind s last os h c in
    let w = r.2.within in
    let le = r.1 in
    (omega arith, w.1, w.2)

-- each later pick begins where the first one ended or later
pub walk-behind_first : (kind : MatchKind) (s : Search) (at : ℕ) (last : Option ℕ) (p : Occurrence)
    (os : List Occurrence) (o : Occurrence) → IsWalk kind s at last (p ∷ os) → Contains os o → p.end ≤ o.start
walk-behind_first kind s at last p os o h c = (walk-within kind s p.end (Some p.end) os o h.1 c).0

-- each pick of an unanchored walk occurs in the search from the place of the walk on
pub walk-occurs : (kind : MatchKind) (s : Search) (at : ℕ) (last : Option ℕ) (os : List Occurrence) (o : Occurrence)
    → s.anchored ≡ false → IsWalk kind s at last os → Contains os o → Occurs (starting_at s at) o
walk-occurs kind s at last os o free h c = among-free all-counted kind s at last os o free h c

-- each pick of an unanchored walk occurs in the whole search, if the walk stands in its span
pub walk-occurs_whole : (kind : MatchKind) {s : Search} {at : ℕ} (last : Option ℕ) (os : List Occurrence)
    {o : Occurrence} → s.anchored ≡ false → s.start ≤ at → IsWalk kind s at last os → Contains os o → Occurs s o
walk-occurs_whole kind {s} {at} last os {o} free le h c =
    occurs-whole le (λ t. absurd (false≢true (sym free ∙ t))) (walk-occurs kind s at last os o free h c)
