-- A search that runs no prefilter: what it knows before its first match, after it, and at its end.
use Rattle.std.proofs.Common.{◌≡◌, ◌≢◌, ℕ, ◌-◌, ◌<◌, ◌≤◌, ◌∙◌, arith, false, List, [], length, Option, Some, None, sym, subst, refl}
use Rattle.ac_input.specs.Number.{StateID}
use Rattle.ac_input.specs.declared.search.Anchored.TheVariants.{No}
use Rattle.ac_input.specs.declared.search.MatchKind.TheVariants.{Standard}
use Rattle.ac_input.specs.declared.steps.Steps.{Steps}
use Rattle.ac_input.specs.Dictionary.{IsLive}
use Rattle.ac_input.specs.Input.{Asked, is_anchored}
use Rattle.ac_input.specs.Occurrence.{Occurrence}
use Rattle.ac_input.specs.Tells.{Tells}
use Rattle.ac_automaton.specs.Automaton.{IsFindCost, IsFound, kind_asked}
use Rattle.ac_automaton.specs.InMemory.Find.{StartsQuiet}
use Rattle.ac_automaton.specs.InMemory.Find.Cursor.{HasNoneYet, IsFirstAt, IsTaken, ReadsFurther, StandsIn, taken}
use Rattle.ac_automaton.specs.declared.automaton.Automaton.{Ghosts}
use Rattle.ac_automaton.specs.declared.in_memory.find.cursor.Cursor.{Cursor}
use Rattle.ac_automaton.proofs.in_memory.find.FindWalkLemmas.{HasAsked, Walks, asked-none, asked-on, asks, text_read, walks-first}
use Rattle.ac_automaton.proofs.in_memory.find.TakenLemmas.{taken-free}
use Rattle.ac_automaton.proofs.in_memory.find.ahead.FindAheadLemmas.{is-found}
use Rattle.ac_automaton.proofs.lemmas.CursorLemmas.{alive-from, list-none}
use Rattle.ac_automaton.proofs.lemmas.WalkEndLemmas.{Ended, Won, none-alive}

-- a search that isn't anchored
module _ {S : Type 0} (A : Ghosts S) (a : S) (asked : Asked)
    (tells : (text : List ℕ) (state : StateID) → A.Reaches a asked.anchored text state
    → Tells (A.built a).dictionary asked.anchored text (A.matches a state))
    (free : asked.anchored ≡ No) where
  -- where a state has no match, none is taken
  takes-none : (cursor : Cursor) → A.matches a cursor.sid ≡ []
      → IsTaken (A.built a) (A.matches a) asked cursor None
  takes-none cursor none =
      let m = (A.built a).dictionary in
      subst (λ k. None ≡ taken m k cursor.at (cursor.at - cursor.from) (A.matches a cursor.sid)) (sym free)
      (subst (λ l. None ≡ taken m No cursor.at (cursor.at - cursor.from) l) (sym none) refl)

  -- at the start, which doesn't match, nothing was met
  pub met-nothing : (start : StateID) (x : Steps) → A.Reaches a asked.anchored [] start
      → asked.span.start ≤ asked.span.end → asked.span.end ≤ length asked.haystack → A.matches a start ≡ []
      → HasAsked A a asked asked.span.start
      (record { sid = start; from = asked.span.start; at = asked.span.start }) None x x
  met-nothing start x starts ordered inside none =
      let at = asked.span.start in
      let begun : Cursor = record { sid = start; from = at; at = at } in
      asks A a asked at begun None None None x x tells
      (walks-first A a asked at start x starts (omega arith) ordered inside) (takes-none begun none) refl

  -- a search that has met nothing isn't dead, and reads on
  pub met-first : {cursor : Cursor} (next : Cursor) {x y : Steps} (z : Steps)
      → HasAsked A a asked asked.span.start cursor None x y → StandsIn (A.built a) (A.Reaches a) asked next
      → next.from ≡ cursor.from → ReadsFurther (A.built a) asked cursor next y z
      → Walks A a asked asked.span.start next None x z
  met-first {cursor} next z has stands same on =
      let m = (A.built a).dictionary in
      let text = text_read asked cursor in
      let none : HasNoneYet (A.built a) asked cursor = asked-none has free refl in
      let alive = alive-from m false text (λ dead. none-alive m m.kind text none dead) in
      asked-on next z has (λ standard. refl)
      (subst (λ k. (from : ℕ) × IsLive m (is_anchored k) text (Some from)) (sym free) alive) stands same on

  -- where a state has a match, it is the best so far
  pub met-some : {cursor : Cursor} (best : Option Occurrence) (o : Occurrence) {x y : Steps}
      → Walks A a asked asked.span.start cursor best x y
      → IsFirstAt (A.built a).dictionary cursor.at (A.matches a cursor.sid) o
      → HasAsked A a asked asked.span.start cursor (Some o) x y
  met-some {cursor} best o {x} {y} walks is =
      let m = (A.built a).dictionary in
      let there : IsTaken (A.built a) (A.matches a) asked cursor (Some o) =
      subst (λ k. Some o ≡ taken m k cursor.at (cursor.at - cursor.from) (A.matches a cursor.sid)) (sym free)
      (taken-free m cursor.at (cursor.at - cursor.from) (A.matches a cursor.sid) is) in
      asks A a asked asked.span.start cursor best (Some o) (Some o) x y tells walks there refl

  -- where it has none, the one before is still the best
  pub met-none : {cursor : Cursor} (best : Option Occurrence) {x y : Steps}
      → Walks A a asked asked.span.start cursor best x y → A.matches a cursor.sid ≡ []
      → HasAsked A a asked asked.span.start cursor best x y
  met-none {cursor} best {x} {y} walks none =
      asks A a asked asked.span.start cursor best None best x y tells walks (takes-none cursor none) refl

-- a plain search, from a place that is the span's start
module _ {S : Type 0} (A : Ghosts S) (a : S) (asked : Asked) (start : StateID)
    (tells : (text : List ℕ) (state : StateID) → A.Reaches a asked.anchored text state
    → Tells (A.built a).dictionary asked.anchored text (A.matches a state))
    (plain : StartsQuiet A a asked start) (starts : A.Reaches a asked.anchored [] start)
    (inside : asked.span.end ≤ length asked.haystack) (from : ℕ) (is : from ≡ asked.span.start) where
  -- where it begins
  abbrev begun : ℕ → Cursor
  begun n = record { sid = start; from = n; at = n }

  ordered : asked.span.start ≤ asked.span.end
  ordered = let some = plain.some in omega (arith, some)

  has : (x : Steps) → HasAsked A a asked asked.span.start (begun asked.span.start) None x x
  has x = met-nothing A a asked tells plain.free start x starts ordered inside (list-none (A.matches a start) plain.quiet)

  pub plain-stands : (x : Steps) → StandsIn (A.built a) (A.Reaches a) asked (begun from)
  plain-stands x = subst (λ n. StandsIn (A.built a) (A.Reaches a) asked (begun n)) (sym is) (has x).stands

  pub plain-nothing : (x : Steps) → HasNoneYet (A.built a) asked (begun from)
  plain-nothing x =
      subst (λ n. HasNoneYet (A.built a) asked (begun n)) (sym is) (asked-none (has x) plain.free refl)

  -- it has read on to a state
  walks : (cursor : Cursor) (x y : Steps) → StandsIn (A.built a) (A.Reaches a) asked cursor → cursor.from ≡ from
      → ReadsFurther (A.built a) asked (begun from) cursor x y
      → Walks A a asked asked.span.start cursor None x y
  walks cursor x y stands same on =
      met-first A a asked tells plain.free cursor y (has x) stands (same ∙ is)
      (subst (λ n. ReadsFurther (A.built a) asked (begun n) cursor x y) is on)

  -- that has no match, so the span ends there
  pub plain-none : (cursor : Cursor) (x y : Steps) → StandsIn (A.built a) (A.Reaches a) asked cursor
      → cursor.from ≡ from → ReadsFurther (A.built a) asked (begun from) cursor x y
      → (cursor.at < asked.span.end → A.matches a cursor.sid ≢ []) → ¬ (A.matches a cursor.sid ≢ [])
      → IsFound (A.built a) asked None × IsFindCost (A.built a) asked x y None
  plain-none cursor x y stands same on stops none =
      let open_ : ¬ (cursor.at < asked.span.end) = λ less. none (stops less) in
      let within = stands.within in
      let ended : cursor.at ≡ asked.span.end = omega (arith, open_, within) in
      is-found A a asked cursor None x y
      (met-none A a asked tells plain.free None (walks cursor x y stands same on)
      (list-none (A.matches a cursor.sid) none)) (Ended ended)

  -- that has a match
  pub plain-met : (cursor : Cursor) (o : Occurrence) (x y : Steps)
      → StandsIn (A.built a) (A.Reaches a) asked cursor → cursor.from ≡ from
      → ReadsFurther (A.built a) asked (begun from) cursor x y
      → IsFirstAt (A.built a).dictionary cursor.at (A.matches a cursor.sid) o
      → HasAsked A a asked asked.span.start cursor (Some o) x y
  plain-met cursor o x y stands same on first =
      met-some A a asked tells plain.free None o (walks cursor x y stands same on) first

  -- that has a match, where the first one wins
  pub plain-first : (cursor : Cursor) (o : Occurrence) (x y : Steps)
      → StandsIn (A.built a) (A.Reaches a) asked cursor → cursor.from ≡ from
      → ReadsFurther (A.built a) asked (begun from) cursor x y
      → IsFirstAt (A.built a).dictionary cursor.at (A.matches a cursor.sid) o
      → kind_asked (A.built a) asked ≡ Standard
      → IsFound (A.built a) asked (Some o) × IsFindCost (A.built a) asked x y (Some o)
  plain-first cursor o x y stands same on first wins =
      is-found A a asked cursor (Some o) x y (plain-met cursor o x y stands same on first) (Won o wins refl)

-- A search that has a match, and that a later one may better, reads on while its state isn't dead.
pub met-on : {S : Type 0} (A : Ghosts S) (a : S) (asked : Asked)
    → ((text : List ℕ) (state : StateID) → A.Reaches a asked.anchored text state
    → Tells (A.built a).dictionary asked.anchored text (A.matches a state))
    → {cursor : Cursor} (next : Cursor) {best : Option Occurrence} {x y : Steps} (z : Steps)
    → HasAsked A a asked asked.span.start cursor best x y → ¬ (kind_asked (A.built a) asked ≡ Standard)
    → ¬ IsLive (A.built a).dictionary (is_anchored asked.anchored) (text_read asked cursor) None
    → StandsIn (A.built a) (A.Reaches a) asked next → next.from ≡ cursor.from
    → ReadsFurther (A.built a) asked cursor next y z
    → Walks A a asked asked.span.start next best x z
met-on A a asked tells {cursor} next {best} z has later alive stands same on =
    asked-on next z has (λ standard. absurd (later standard))
    (alive-from (A.built a).dictionary (is_anchored asked.anchored) (text_read asked cursor) alive) stands same on
