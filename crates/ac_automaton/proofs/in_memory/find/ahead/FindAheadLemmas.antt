-- What a search for one match returns and costs, when one call reads on from its start to the first state that matches.
use Rattle.std.proofs.Common.{◌≡◌, ◌≢◌, ℕ, ◌+◌, ◌-◌, ◌<◌, ◌≤◌, Bool, false, List, [], length, take, drop, Option, Some, None, slice_range, refl, sym, ap, subst, ◌∙◌, ◌∷◌, arith, length-drop}
use Rattle.std.specs.Option.{option_or}
use Rattle.std.proofs.lemmas.List.{drop-take, length-take-le}
use Rattle.ac_input.specs.Number.{StateID}
use Rattle.ac_input.specs.declared.search.Anchored.{Anchored}
use Rattle.ac_input.specs.declared.search.Anchored.TheVariants.{No}
use Rattle.ac_input.specs.declared.search.Span.{Span}
use Rattle.ac_input.specs.declared.steps.Steps.{Steps}
use Rattle.ac_input.specs.Dictionary.{Dictionary}
use Rattle.ac_input.specs.Input.{Asked}
use Rattle.ac_input.specs.Occurrence.{Occurrence, Occurs, Search}
use Rattle.ac_input.specs.Tells.{Tells, ending_at}
use Rattle.ac_input.specs.Work.{shortest}
use Rattle.ac_input.proofs.lemmas.OrderLemmas.{slice_range-length}
use Rattle.std.specs.Prelude.{IfSome}
use Rattle.ac_automaton.specs.Ahead.{IsAhead, bytes_ahead, left_notes, onward}
use Rattle.ac_automaton.specs.declared.ahead.Ahead.{Ahead}
use Rattle.ac_automaton.proofs.ahead.AheadLemmas.{ahead-end, ahead-fresh}
use Rattle.ac_automaton.specs.Automaton.{AdvancesToMatch, Built, IsFindCost, IsFound, IsReadCost, kind_asked, prefilter_for}
use Rattle.ac_automaton.specs.InMemory.Find.Cursor.{IsFirstAt, taken}
use Rattle.ac_automaton.specs.InMemory.Find.Ahead.{MayReadAhead, ReadsAheadFrom}
use Rattle.ac_automaton.specs.declared.automaton.Advance.{Advance}
use Rattle.ac_automaton.specs.declared.automaton.Automaton.{Ghosts}
use Rattle.ac_automaton.specs.declared.in_memory.find.cursor.Cursor.{Cursor}
use Rattle.ac_automaton.proofs.in_memory.find.CountedLemmas.{walk-counts}
use Rattle.ac_automaton.proofs.lemmas.CursorLemmas.{alive-from, list-none, part-empty}
use Rattle.ac_automaton.proofs.in_memory.find.FindWalkLemmas.{HasAsked, Walks, asked-looks, asked-on, asked-says, asked-work, asks, rest, text_read, walks-first}
use Rattle.ac_automaton.proofs.automaton.PassLemmas.{matching-some, some-matching}
use Rattle.ac_automaton.proofs.in_memory.find.cursor.ReadToMatchLemmas.{cursor-read_to, cursor-read_to_first}
use Rattle.ac_automaton.proofs.stream.SearchLemmas.{told-some}
use Rattle.ac_automaton.proofs.stream.SearchReadLemmas.{nothing-in_empty}
use Rattle.ac_automaton.proofs.in_memory.find.TakenLemmas.{taken-free}
use Rattle.ac_automaton.proofs.lemmas.WalkEndLemmas.{IsDone, Ended, none-alive}
use Rattle.ac_input.proofs.lemmas.UnusedLemmas.{occurs-some}

-- dropping from the front of a list gives a part of the list
pub front-part : (bytes : List ℕ) (from to : ℕ) → from ≤ to → drop from (take to bytes) ≡ slice_range bytes from to
front-part bytes from to ordered =
    let all : to ≡ from + (to - from) = omega arith in
    ap (λ n. drop from (take n bytes)) all ∙ drop-take from (to - from) bytes

-- a result is unchanged by a default of none
or-none : (r : Option Occurrence) → r ≡ option_or r None
or-none None = refl
or-none (Some o) = refl

-- where a walk is over, its match is the match of the search
pub is-found : {S : Type 0} (A : Ghosts S) (a : S) (asked : Asked) (stood : Cursor)
    (r : Option Occurrence) (x y : Steps) → HasAsked A a asked asked.span.start stood r x y
    → IsDone (A.built a).dictionary asked.anchored (kind_asked (A.built a) asked) asked.haystack (rest asked stood)
    stood.at r
    → IsFound (A.built a) asked r × IsFindCost (A.built a) asked x y r
is-found A a asked stood r x y has done =
    let b = A.built a in
    let work = asked-work has in (
      asked-says has done,
      record {
        work = work.0;
        counted = walk-counts (prefilter_for b asked.anchored) _ x y work.1 (asked-looks has done);
      },
    )

-- a search that isn't anchored
module _ {S : Type 0} (A : Ghosts S) (a : S) (haystack : List ℕ) (span : Span) (earliest : Bool) (start : StateID)
    (stop : Advance) (x y : Steps)
    (tells : (text : List ℕ) (state : StateID) → A.Reaches a No text state
    → Tells (A.built a).dictionary No text (A.matches a state))
    (may : MayReadAhead A a (record { haystack = haystack; span = span; anchored = No; earliest = earliest }) start)
    (left : span.start < span.end) (inside : span.end ≤ length haystack)
    (goes : AdvancesToMatch (A.Reaches a No) (A.matches a) start (slice_range haystack span.start span.end) stop)
    (cost : IsReadCost (A.built a) (A.Reaches a) No start (take stop.taken (slice_range haystack span.start span.end)) x
    y) where
  abbrev asked : Asked
  asked = record { haystack = haystack; span = span; anchored = No; earliest = earliest }

  -- where the search begins, and where it stands after the call
  abbrev begun : Cursor
  begun = record { sid = start; from = span.start; at = span.start }

  abbrev stood : Cursor
  stood = record { sid = stop.sid; from = span.start; at = span.start + stop.taken }

  -- nothing matches at the start
  quiet : A.matches a start ≡ []
  quiet = list-none (A.matches a start)
      (λ some. told-some (A.built a).dictionary [] (A.matches a start) 0 0 (tells [] start may.starts) some
      (nothing-in_empty (A.built a).dictionary [] may.filled refl))

  first : HasAsked A a asked span.start begun None x x
  first =
      let none : None ≡ taken (A.built a).dictionary No span.start (span.start - span.start) (A.matches a start) =
      subst (λ l. None ≡ taken (A.built a).dictionary No span.start (span.start - span.start) l) (sym quiet) refl in
      asks A a asked span.start begun None None None x x tells
      (walks-first A a asked span.start start x may.starts (omega arith) (omega arith) inside) none refl

  -- the call reads a byte at least, and none after the span
  some-taken : (0 < stop.taken) × (stop.taken ≤ span.end - span.start)
  some-taken =
      let long = slice_range-length haystack span.start (omega arith) inside in
      (goes.taken.1 (omega (arith, long)), omega (arith, goes.taken.0, long))

  walks : Walks A a asked span.start stood None x y
  walks =
      let b = A.built a in
      let has = first in
      let none = nothing-in_empty b.dictionary (text_read asked begun) may.filled (part-empty haystack span.start) in
      let alive = alive-from b.dictionary false (text_read asked begun)
      (λ dead. none-alive b.dictionary b.dictionary.kind (text_read asked begun) none dead) in
      let stands = cursor-read_to stop.sid span.end stop.taken has.stands
      (omega arith) (omega arith) some-taken.1 goes.reads in
      let on = cursor-read_to_first b (A.Reaches a) (A.matches a) stop.sid span.end stop.taken
      x y none has.stands (omega arith) (omega arith) some-taken.0 some-taken.1 tells goes.plain cost in
      asked-on stood y has (λ standard. refl) alive stands refl on

  -- the walk with the match of the state where it stands
  asked-there : (r : Option Occurrence)
      → r ≡ taken (A.built a).dictionary No stood.at (stood.at - stood.from) (A.matches a stop.sid)
      → HasAsked A a asked span.start stood r x y
  asked-there r is = asks A a asked span.start stood None r r x y tells walks is (or-none r)

  -- where the state matches, the search has its match
  free-some : (o : Occurrence) → IsFirstAt (A.built a).dictionary stood.at (A.matches a stop.sid) o
      → HasAsked A a asked span.start stood (Some o) x y
  free-some o is =
      asked-there (Some o)
      (taken-free (A.built a).dictionary stood.at (stood.at - stood.from) (A.matches a stop.sid) is)

  -- where the state doesn't match, the span ends there and there is no match
  free-none : ¬ (A.matches a stop.sid ≢ []) → IsFound (A.built a) asked None × IsFindCost (A.built a) asked x y None
  free-none none =
      let m = (A.built a).dictionary in
      let empty = list-none (A.matches a stop.sid) none in
      let long = slice_range-length haystack span.start (omega arith) inside in
      let within = some-taken.1 in
      let all : ¬ (stop.taken < length (slice_range haystack span.start span.end)) =
      λ less. none (some-matching (A.matches a stop.sid) (goes.stops less)) in
      let ended : span.start + stop.taken ≡ span.end = omega (arith, all, long, within) in
      is-found A a asked stood None x y
      (asked-there None (subst (λ l. None ≡ taken m No stood.at (stood.at - stood.from) l) (sym empty) refl))
      (Ended ended)

-- a search for one match in an input that was read ahead to the end of its span
module _ {S : Type 0} (A : Ghosts S) (a : S) (asked : Asked) (start : StateID) (stop : Advance) (x y : Steps)
    (tells : (text : List ℕ) (state : StateID) → A.Reaches a No text state
    → Tells (A.built a).dictionary No text (A.matches a state))
    (may : MayReadAhead A a asked start)
    (left : asked.span.start < asked.span.end) (inside : asked.span.end ≤ length asked.haystack)
    (goes : AdvancesToMatch (A.Reaches a No) (A.matches a) start
    (drop asked.span.start (take asked.span.end asked.haystack)) stop)
    (cost : IsReadCost (A.built a) (A.Reaches a) No start
    (take stop.taken (drop asked.span.start (take asked.span.end asked.haystack))) x y) where
  abbrev IsAnswer : Anchored → Option Occurrence → Type 0
  IsAnswer anchored r =
      IsFound (A.built a) (record asked { anchored = anchored }) r
      × IsFindCost (A.built a) (record asked { anchored = anchored }) x y r

  may-free : MayReadAhead A a (record asked { anchored = No }) start
  may-free = record { kind = may.kind; filled = may.filled; free = refl; starts = may.starts }

  part : drop asked.span.start (take asked.span.end asked.haystack)
      ≡ slice_range asked.haystack asked.span.start asked.span.end
  part = front-part asked.haystack asked.span.start asked.span.end (omega arith)

  goes-on : AdvancesToMatch (A.Reaches a No) (A.matches a) start
      (slice_range asked.haystack asked.span.start asked.span.end) stop
  goes-on = subst (λ l. AdvancesToMatch (A.Reaches a No) (A.matches a) start l stop) part goes

  costs-so : IsReadCost (A.built a) (A.Reaches a) No start
      (take stop.taken (slice_range asked.haystack asked.span.start asked.span.end)) x y
  costs-so = subst (λ l. IsReadCost (A.built a) (A.Reaches a) No start (take stop.taken l) x y) part cost

  -- where the state matches, the search has its match
  pub ahead-some : (o : Occurrence)
      → IsFirstAt (A.built a).dictionary (asked.span.start + stop.taken) (A.matches a stop.sid) o
      → HasAsked A a asked asked.span.start
      (record { sid = stop.sid; from = asked.span.start; at = asked.span.start + stop.taken }) (Some o) x y
  ahead-some o is =
      let stood : Cursor = record { sid = stop.sid; from = asked.span.start; at = asked.span.start + stop.taken } in
      subst (λ anchored. HasAsked A a (record asked { anchored = anchored }) asked.span.start stood (Some o) x y)
      (sym may.free)
      (free-some A a asked.haystack asked.span asked.earliest start stop x y tells may-free left inside goes-on costs-so
      o is)

  pub ahead-none : ¬ (A.matches a stop.sid ≢ [])
      → IsFound (A.built a) asked None × IsFindCost (A.built a) asked x y None
  ahead-none none =
      subst (λ anchored. IsAnswer anchored None) (sym may.free)
      (free-none A a asked.haystack asked.span asked.earliest start stop x y tells may-free left inside goes-on costs-so
      none)

-- where no pattern is empty, nothing is found in an empty span
pub none-left : (s : Search) → s.end ≤ length s.haystack → 1 ≤ shortest s.patterns → s.start ≡ s.end → (o : Occurrence)
    → ¬ Occurs s o
none-left s inside filled e o h = let lt = occurs-some inside filled h in let w = h.within in omega (arith, lt, w, e)

-- ---- what was read ahead

-- a match of a list at a place ends there
pub first-ends : (m : Dictionary) (at : ℕ) (ns : List ℕ) (o : Occurrence) → IsFirstAt m at ns o → o.end ≡ at
first-ends m at [] o is = let e : Some o ≡ None = is in absurd cc
first-ends m at (n ∷ ns) o is = let e : o ≡ ending_at m at n = cc in ap (λ q. q.end) e

-- after a match, what was read ahead of the search that begins anew there
pub ahead-match : {b : Built} {Reaches : List ℕ → StateID → Type 0} {matches : StateID → List ℕ} (start sid : StateID)
    {bytes : List ℕ} {at : ℕ} (o : Occurrence) {ahead : Ahead} → matches sid ≢ []
    → IsFirstAt b.dictionary at (matches sid) o
    → IsAhead b Reaches matches (Some start) bytes at (onward matches (Some start) sid) ahead
    → IsAhead b Reaches matches (Some start) bytes o.end start ahead
ahead-match {b} {Reaches} {matches} start sid {bytes} {at} o {ahead} some is read =
    let yes = matching-some (matches sid) some in
    let here : onward matches (Some start) sid ≡ start = rw yes refl in
    subst (λ n. IsAhead b Reaches matches (Some start) bytes n start ahead)
    (sym (first-ends b.dictionary at (matches sid) o is))
    (subst (λ i. IsAhead b Reaches matches (Some start) bytes at i ahead) here read)

-- without a match, the search has read to the end of the span
pub ahead-ended : {b : Built} {Reaches : List ℕ → StateID → Type 0} {matches : StateID → List ℕ} (start sid : StateID)
    {next : StateID} (haystack : List ℕ) (from to : ℕ) (stop : Advance) {ahead : Ahead} → from ≤ to
    → to ≤ length haystack → ¬ (matches stop.sid ≢ [])
    → AdvancesToMatch Reaches matches sid (drop from (take to haystack)) stop
    → IsAhead b Reaches matches (Some start) (take to haystack) (from + stop.taken) next ahead
    → IsAhead b Reaches matches (Some start) (take to haystack) to start ahead
ahead-ended {b} {Reaches} {matches} start sid {next} haystack from to stop {ahead} ordered inside none goes read =
    let long = length-take-le to haystack inside in
    let left = length-drop from (take to haystack) in
    let within = goes.taken.0 in
    let all : ¬ (stop.taken < length (drop from (take to haystack))) =
    λ less. none (some-matching (matches stop.sid) (goes.stops less)) in
    let there : from + stop.taken ≡ to = omega (arith, all, left, long, within, ordered) in
    ahead-end (sym long)
    (subst (λ n. IsAhead b Reaches matches (Some start) (take to haystack) n next ahead) there read)

-- a walk that has read nothing ahead yet
pub reads-fresh : {S : Type 0} (A : Ghosts S) (a : S) (start : Option StateID) (input : Asked) (at : ℕ) (ahead : Ahead)
    → IfSome start (MayReadAhead A a input) → ahead.end ≤ length ahead.notes → left_notes ahead ≡ []
    → bytes_ahead ahead ≡ 0 → ReadsAheadFrom A a start input at ahead
reads-fresh A a None input at ahead may room none nothing = nothing
reads-fresh A a (Some start) input at ahead may room none nothing = (may, ahead-fresh room none nothing)
