-- What a search of a stream keeps of what was read ahead of it.
use Rattle.std.proofs.Common.{◌≡◌, ℕ, ◌+◌, ◌-◌, ◌≤◌, max, min, Bool, false, List, [], length, Option, None, Some, sym, ap, subst, refl, ◌∙◌, arith, length-append, length-drop}
use Rattle.ac_input.specs.Number.{StateID}
use Rattle.ac_input.specs.declared.search.Anchored.TheVariants.{No}
use Rattle.ac_input.specs.declared.history.Count.{Count}
use Rattle.ac_input.specs.declared.history.Pieces.{Pieces}
use Rattle.ac_input.specs.declared.steps.Steps.{Steps}
use Rattle.ac_input.specs.Dictionary.{live_len}
use Rattle.ac_input.specs.Occurrence.{Occurrence}
use Rattle.ac_input.specs.Steps.{Added, AreNone}
use Rattle.ac_automaton.specs.Ahead.{HasForgotten, IsPaid, IsReadOnce, StaysReadOnce, bytes_ahead, left_notes, less_ahead}
use Rattle.ac_automaton.specs.InMemory.Find.Ahead.{IsAheadOf}
use Rattle.ac_automaton.specs.Stream.Devices.Buffer.{Filled, Held, nothing_held, rolled, taken_into}
use Rattle.ac_automaton.specs.Stream.{AreAllGiven, ReadsNothing, FindsHeld, IsOnCourse, IsSearched, Sequence, StreamCounts, StreamProgress, fresh_progress, may_wait, read_by}
use Rattle.ac_automaton.specs.Stream.Search.{IsStreamSearch, Searched, SearchesOn, after_search, progress_at, since_last, some_of}
use Rattle.ac_automaton.specs.Stream.Search.Walk.{IsAheadBy, StandsAfter, WalksOn}
use Rattle.ac_automaton.specs.declared.ahead.Ahead.{Ahead}
use Rattle.ac_automaton.specs.declared.automaton.Automaton.{Ghosts}
use Rattle.ac_automaton.specs.declared.stream.search.StreamSearch.TheInside.{Inside}
use Rattle.ac_automaton.specs.declared.stream.devices.watched.Watched.{Watched}
use Rattle.ac_automaton.proofs.ahead.AheadLemmas.{ahead-forgotten, ahead-none, ahead-within, less-added}
use Rattle.ac_automaton.proofs.stream.StreamBudgetLemmas.{IsAheadOfStream, budget-ahead}
use Rattle.ac_automaton.proofs.stream.StreamSearchLemmas.{IsSettled, added-done, closed-right, come_by, fresh-view, next-stream, next-view, settled_by, recounted}

-- ---- what is kept

-- what a search keeps is right: how far it has come, with what was read ahead of it
abbrev pub IsKept : {S : Type 0} → Ghosts S → Inside S → Type 0
IsKept A i =
    IsOnCourse (come_by A i) × IsSettled A i
    × IsAheadOf A i.automaton (Some i.start) i.buffer.bytes (i.progress.at - i.progress.from) i.progress.sid i.ahead
    × IsReadOnce i.progress.from i.buffer.bytes i.ahead × (bytes_ahead i.ahead ≤ i.sums.looked.value)

module _ {S : Type 0} (A : Ghosts S) (i : Inside S) (is : IsSettled A i) where
  -- the held bytes and those before them are all that was read
  pub held-long : i.progress.from + length i.buffer.bytes ≡ length (read_by (come_by A i))
  held-long =
      let course = is.stands.course in
      let held = ap length is.holds.bytes in
      let dropped = length-drop i.progress.from (read_by (come_by A i)) in
      omega (arith, held, dropped, course.kept.1, course.ordered.1)

  -- How far the search has come is right, with what was read ahead of it.
  pub on-course : IsAheadOf A i.automaton (Some i.start) i.buffer.bytes (i.progress.at - i.progress.from) i.progress.sid
      i.ahead → IsReadOnce i.progress.from i.buffer.bytes i.ahead → bytes_ahead i.ahead ≤ i.sums.looked.value
      → IsOnCourse (come_by A i)
  on-course notes once made =
      let s = settled_by A i in
      let stands = is.stands in
      let course = stands.course in
      let long = held-long in
      let behind = course.kept.1 in
      let inside = course.ordered.1 in
      let live : Option ℕ = Some stands.live in
      let ahead : IsAheadOfStream s (bytes_ahead i.ahead) = record {
        once = omega (arith, once, long);
        lanes = notes.none;
        standard = λ standard.
            let w = ahead-within standard (omega (arith, long, behind, inside)) notes in
            (omega (arith, w.0, long, behind, inside), w.1);
      } in
      recounted course
      (budget-ahead s (live_len (since_last s) live) (bytes_ahead i.ahead) i.sums.looked.value inside
      (stands.lookups live stands.alive) course.paid.scanned course.paid.moved ahead (omega (arith, made)))

  -- so all that it keeps is right
  pub kept-from : IsAheadOf A i.automaton (Some i.start) i.buffer.bytes (i.progress.at - i.progress.from) i.progress.sid
      i.ahead → IsReadOnce i.progress.from i.buffer.bytes i.ahead → bytes_ahead i.ahead ≤ i.sums.looked.value
      → IsKept A i
  kept-from notes once made = (on-course notes once made, is, notes, once, made)

-- ---- at first

-- what a search that has read nothing keeps
abbrev pub fresh_inside : {S : Type 0} → S → StateID → Held → Ahead → Count → Pieces → Steps → Inside S
fresh_inside a start buffer ahead count pieces sums =
    record {
      automaton = a;
      start = start;
      buffer = buffer;
      progress = record { sid = start; from = 0; at = 0; last = 0; best = None; closed = false };
      over = false;
      ahead = ahead;
      given = count;
      pieces = pieces;
      sums = sums;
    }

-- it is right
pub fresh-kept : {S : Type 0} (A : Ghosts S) (a : S) {start : StateID} (n : ℕ) {buffer : Held} (ahead : Ahead)
    (count : Count) (pieces : Pieces) {sums : Steps}
    → IsStreamSearch (A.Reaches a No) (fresh_progress (A.built a)) start start None count.value buffer false
    → pieces.items ≡ [] → count.value ≡ 0 → buffer ≡ nothing_held (max n 1) → AreNone sums
    → ahead.end ≤ length ahead.notes → left_notes ahead ≡ [] → bytes_ahead ahead ≡ 0
    → IsKept A (fresh_inside a start buffer ahead count pieces sums)
fresh-kept A a {start} n {buffer} ahead count pieces {sums} right empty zero_given held none room left nothing =
    let b = A.built a in
    let settled : AreNone (less_ahead sums ahead) = let looked = none.looked in
    record { looked = omega arith; scanned = none.scanned; moved = none.moved } in
    let view =
    fresh-view b pieces.items count.value start n buffer empty zero_given held settled in
    kept-from A (fresh_inside a start buffer ahead count pieces sums)
    (subst (λ t. IsStreamSearch (A.Reaches a No) t start start None count.value buffer false) (sym view) right)
    (ahead-none room left (λ standard. omega (arith, nothing)) (λ _. nothing))
    (omega (arith, nothing)) (omega (arith, nothing))

-- ---- the end of the input

-- what it keeps stays right when it is told that nothing more comes
pub closed-kept : {S : Type 0} (A : Ghosts S) (i : Inside S) (closed : Bool)
    → closed ≡ may_wait (A.built i.automaton).dictionary.kind → IsKept A i
    → IsKept A (record i { progress = record i.progress { closed = closed } })
closed-kept A i closed is kept =
    let s = settled_by A i in
    kept-from A (record i { progress = record i.progress { closed = closed } })
    (subst (λ c. IsStreamSearch (A.Reaches i.automaton No) (record s { closed = c }) i.start i.progress.sid
    i.progress.best i.given.value i.buffer i.over) (sym is)
    (closed-right
    kept.1))
    kept.2 kept.3 kept.4

-- ---- other bytes

-- what was counted, less what was read ahead, is the same where as much was read ahead
less-same : (sums : Steps) (before after : Ahead) → bytes_ahead after ≡ bytes_ahead before
    → less_ahead sums before ≡ less_ahead sums after
less-same sums before after same =
    ap (λ n. record sums { looked = record sums.looked { value = sums.looked.value - n } }) (sym same)

-- after a read the buffer holds at least as many bytes
pub filled-longer : {R : Type 0} {remaining : R → Option (List ℕ)} {old new : Held} {before after : Watched R} {n : ℕ}
    → Filled remaining old new before after n → length old.bytes ≤ length new.bytes
filled-longer {old} filled =
    let long = ap (λ h. length h.bytes) filled.held in
    let both = length-append old.bytes filled.piece in
    omega arith

-- and after it took some bytes too
pub taken-longer : (old new : Held) (bytes : List ℕ) → new ≡ taken_into old bytes → length old.bytes ≤ length new.bytes
taken-longer old new bytes took =
    let long = ap (λ h. length h.bytes) took in
    let both = length-append old.bytes bytes in
    omega arith

-- after the bytes from a place on were moved to the front, it holds as many fewer
pub rolled-long : (old new : Held) (from cut : ℕ) → new ≡ rolled old (cut - from) → from ≤ cut
    → from + length old.bytes ≤ cut + length new.bytes
rolled-long old new from cut moves before =
    let long = ap (λ h. length h.bytes) moves in
    let rest = length-drop (cut - from) old.bytes in
    omega arith

module _ {S : Type 0} (A : Ghosts S) (i : Inside S) (all : List (List ℕ)) (from : ℕ) (new : Held) (over : Bool) where
  -- what the search keeps when other bytes are held
  abbrev pub held_other : Inside S
  held_other =
      record i {
        pieces = record i.pieces { items = all };
        progress = record i.progress { from = from };
        buffer = new;
        over = over;
      }

  -- All held bytes were searched. When other bytes are held and the notes are forgotten, what the search keeps stays
  -- right.
  pub forgotten-kept : (until : ℕ) (after : Ahead) → IsKept A i → IsSearched (come_by A i) → IsSettled A held_other
      → HasForgotten i.ahead until after → i.progress.from + length i.buffer.bytes ≤ from + min until (length new.bytes)
      → IsKept A (record held_other { ahead = after })
  forgotten-kept until after kept searched settled forgotten fits =
      let long = held-long A i kept.1 in
      let behind = kept.0.kept.1 in
      let same = forgotten.ahead in
      let to = forgotten.until in
      let once = kept.3 in
      let made = kept.4 in
      kept-from A (record held_other { ahead = after })
      (subst (λ sums. IsStreamSearch (A.Reaches i.automaton No)
      (progress_at (A.built i.automaton) all i.given.value (record i.progress { from = from }) new sums) i.start
      i.progress.sid i.progress.best i.given.value new over) (less-same i.sums i.ahead after same) settled)
      (ahead-forgotten (λ standard. omega (arith, searched, long, behind)) kept.2 forgotten)
      (omega (arith, same, to, once, fits)) (omega (arith, same, made))

-- ---- the next match

-- what a call finds doesn't depend on what was counted
pub finds-counted : {q : Sequence} (s t : StreamProgress q) (x y : ℕ) (found : Option Occurrence) → FindsHeld s found t
    → FindsHeld (record s { looked = x }) found (record t { looked = y })
finds-counted {q} s t x y found finds = by found finds
  where
    nothing : ReadsNothing s t → ReadsNothing (record s { looked = x }) (record t { looked = y })
    nothing none =
        record {
          on = none.on;
          last = none.last;
          closed = none.closed;
          built = none.built;
          pieces = none.pieces;
          from = none.from;
        }

    given : (u : StreamProgress q) (n : ℕ) → AreAllGiven u → AreAllGiven (record u { looked = n })
    given u n all = record { searched = all.searched; all = all.all; open_ = all.open_; anew = all.anew }

    by : (found : Option Occurrence) → FindsHeld s found t
        → FindsHeld (record s { looked = x }) found (record t { looked = y })
    by None finds = (nothing finds.0, finds.1, λ few. given t y (finds.2 few))
    by (Some o) finds =
        let held = finds.4 in (
          nothing finds.0,
          finds.1,
          finds.2,
          finds.3,
          record {
            pattern = held.pattern;
            held = held.held;
            behind = held.behind;
            some = held.some;
            new = held.new;
            past = held.past;
            within = held.within;
          },
          finds.5,
          λ all. finds.6 (given (record s { looked = x }) s.looked all),
        )

-- what the search keeps after a search over the held bytes
abbrev pub searched_to : {S : Type 0} → Inside S → Searched → Count → Ahead → Steps → Inside S
searched_to i r number ahead more = record i { progress = r.progress; ahead = ahead; given = number; sums = more }

-- it may be searched on from there
pub walks-from : {S : Type 0} (A : Ghosts S) (i : Inside S) (held : List ℕ) → IsKept A i → i.over ≡ false
    → held ≡ i.buffer.bytes → StandsAfter A i.automaton (settled_by A i) i.start i.progress held
walks-from A i held kept open_ bytes =
    record {
      built = refl;
      stands = kept.1.stands;
      closed = refl;
      from = refl;
      at = refl;
      last = refl;
      bytes = bytes ∙ kept.1.holds.bytes;
      countable = kept.1.countable open_;
    }

-- After a search over the held bytes.
module _ {S : Type 0} (A : Ghosts S) (i : Inside S) (r : Searched) (number : Count) (ahead : Ahead)
    (fresh taken more : Steps) (held : List ℕ)
    (kept : IsKept A i) (open_ : i.over ≡ false) (bytes : held ≡ i.buffer.bytes)
    (walk : IsPaid i.ahead ahead taken (λ paid. WalksOn A i.automaton i.start i.progress held r fresh paid))
    (notes : IsAheadBy A i.automaton i.start held r.progress ahead × StaysReadOnce held i.ahead ahead)
    (none : AreNone fresh) (added : Added taken i.sums more)
    (numbered : number.value ≡ i.given.value + length (some_of r.found)) where
  -- what the search keeps then
  abbrev then : Inside S
  then = searched_to i r number ahead more

  -- how the search went on
  on : SearchesOn (A.Reaches i.automaton No) (settled_by A i) i.start r fresh walk.0
  on = walk.2 (settled_by A i) (walks-from A i held kept open_ bytes)

  -- what was counted, and what of it the bytes passed cost
  pays : Added walk.0 (less_ahead i.sums i.ahead) (less_ahead more ahead) × (bytes_ahead ahead ≤ more.looked.value)
  pays = less-added none walk.1 added kept.4

  -- how far it has come, what was read ahead of it left aside
  view : settled_by A then ≡ after_search (settled_by A i) r on.looks
  view = next-view (A.built i.automaton) i.pieces.items i.given.value i.progress i.buffer r number.value kept.1.number
      on.stands.course.decided on.closed on.from numbered
      (added-done (less_ahead i.sums i.ahead) (less_ahead more ahead) none on.done pays.0)

  -- what it keeps then is right
  pub next-kept : IsKept A then
  next-kept =
      let from = on.from in
      let long = ap length bytes in
      let was : IsReadOnce i.progress.from held i.ahead = omega (arith, kept.3, long) in
      let is : IsReadOnce i.progress.from held ahead = omega (arith, notes.1, was) in
      kept-from A then
      (subst (λ t. IsStreamSearch (A.Reaches i.automaton No) t i.start r.progress.sid r.progress.best number.value
      i.buffer i.over) (sym view)
      (next-stream number.value kept.1 on numbered))
      (subst (λ l. IsAheadOf A i.automaton (Some i.start) l (r.progress.at - r.progress.from) r.progress.sid ahead)
      bytes notes.0)
      (omega (arith, is, from, long)) pays.1

  -- it found the next match
  pub next-finds : FindsHeld (come_by A i) r.found (come_by A then)
  next-finds = finds-counted (settled_by A i) (settled_by A then) i.sums.looked.value more.looked.value r.found
      (subst (λ t. FindsHeld (settled_by A i) r.found t) (sym view) on.finds)

  -- it counted what was done
  pub next-counts : (before after : Steps) → Added taken before after
      → StreamCounts (come_by A i) (come_by A then) before after
  next-counts before after counted =
      let moved = walk.1.moved in
      let done = on.done.moved in
      let zero = none.moved in
      let bytes = counted.moved in (
        taken.looked.value,
        taken.scanned.value,
        0,
        record { looked = counted.looked; scanned = counted.scanned; moved = omega (arith, moved, done, zero, bytes) },
        added.looked,
        added.scanned,
        omega arith,
      )
