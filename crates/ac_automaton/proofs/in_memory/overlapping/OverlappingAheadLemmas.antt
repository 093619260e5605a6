-- What an overlapping search passes when it reads on with notes of what was read ahead, and what that costs.
use Rattle.std.proofs.Common.{◌≡◌, ◌⊎◌, ⊎_elim, ℕ, ◌+◌, ◌-◌, ◌*◌, ◌<◌, ◌≤◌, Bool, true, false, List, [], length, take, drop, Option, None, Some, slice_range, if◌then◌else◌, sym, ap, subst, refl, ◌∙◌, arith}
use Rattle.std.proofs.lemmas.List.{length-take-le}
use Rattle.ac_input.specs.Number.{StateID}
use Rattle.ac_input.specs.declared.search.Anchored.TheVariants.{No, Yes}
use Rattle.ac_input.specs.declared.search.MatchKind.TheVariants.{Standard}
use Rattle.ac_input.specs.declared.steps.Steps.{Steps}
use Rattle.ac_input.specs.Candidate.{Filter}
use Rattle.ac_input.specs.Computed.{listing_of}
use Rattle.ac_input.specs.Input.{Asked, is_anchored}
use Rattle.ac_input.specs.Occurrence.{Occurrence, Search, starting_at}
use Rattle.ac_input.specs.Steps.{Added, AreNone}
use Rattle.ac_input.specs.Tells.{Tells}
use Rattle.ac_input.specs.Work.{bytes_counted, come_at_least, lookups_per_byte}
use Rattle.ac_input.proofs.lemmas.OrderLemmas.{slice_range-length}
use Rattle.ac_automaton.specs.Ahead.{IsPaid, Settles, bytes_ahead, left_notes, less_ahead, most_ahead, onward}
use Rattle.ac_automaton.specs.Automaton.{AdvancesToMatch, Built, IsReadCost, is_matching, listing_in, prefilter_for, searched}
use Rattle.ac_automaton.specs.InMemory.Find.Cursor.{HasReadOn, IsCursor, ReadsFurther, StandsIn, read_to, walked}
use Rattle.ac_automaton.specs.InMemory.Overlapping.{IsCountedTo, IsPaidAt, IsPlacePaid, ShowsFirst, StandsAt, and_one, come_to, stands_at_least}
use Rattle.ac_automaton.specs.InMemory.Overlapping.OverlappingSearch.{CountsFrom, CountsOn, IsAheadAt, IsAheadFrom, IsAheadIf, IsLeftAt, KeepsPaying, MayShow, PaysAhead, PaysAt, ShowsNextAt}
use Rattle.ac_automaton.specs.declared.ahead.Ahead.{Ahead}
use Rattle.ac_automaton.specs.declared.automaton.Advance.{Advance}
use Rattle.ac_automaton.specs.declared.automaton.Automaton.{Ghosts}
use Rattle.ac_automaton.specs.declared.in_memory.find.cursor.Cursor.{Cursor}
use Rattle.ac_automaton.specs.declared.in_memory.overlapping.Position.{Position}
use Rattle.ac_automaton.specs.declared.in_memory.overlapping.Position.TheVariants.{At, Over}
use Rattle.ac_automaton.specs.declared.in_memory.overlapping.Shown.{Shown}
use Rattle.ac_automaton.proofs.ahead.AheadLemmas.{ahead-none, ahead-over, ahead-within, less-added}
use Rattle.ac_automaton.proofs.in_memory.find.CountedLemmas.{walk-counts}
use Rattle.ac_automaton.proofs.in_memory.find.ahead.FindAheadLemmas.{front-part}
use Rattle.ac_automaton.proofs.in_memory.find.cursor.ReadToMatchLemmas.{cursor-read_to, cursor-read_to_match}
use Rattle.ac_automaton.proofs.in_memory.overlapping.OverlappingReadLemmas.{paid-to}
use Rattle.ac_automaton.proofs.in_memory.overlapping.OverlappingStateLemmas.{counted-after, stands-after}
use Rattle.ac_automaton.proofs.in_memory.overlapping.ShowLemmas.{HasWalkedFrom, walked-further}
use Rattle.ac_input.proofs.lemmas.SomeLemmas.{live-some}

-- a cursor after some bytes more, in another state
abbrev pub moved_on : Cursor → Advance → Cursor
moved_on cursor stop = record { sid = stop.sid; from = cursor.from; at = cursor.at + stop.taken }

-- where a cursor stands after reading on to the first state that matches, and what it met on its way
pub cursor-read_ahead : {S : Type 0} (A : Ghosts S) (a : S) (asked : Asked) (cursor : Cursor) (stop : Advance)
    (x y : Steps)
    → ((text : List ℕ) (state : StateID) → A.Reaches a No text state
    → Tells (A.built a).dictionary No text (A.matches a state))
    → (A.built a).dictionary.kind ≡ Standard → asked.anchored ≡ No → StandsIn (A.built a) (A.Reaches a) asked cursor
    → cursor.at < asked.span.end
    → AdvancesToMatch (A.Reaches a No) (A.matches a) cursor.sid (drop cursor.at (take asked.span.end asked.haystack))
    stop
    → IsReadCost (A.built a) (A.Reaches a) No cursor.sid
    (take stop.taken (drop cursor.at (take asked.span.end asked.haystack))) x y
    → StandsIn (A.built a) (A.Reaches a) asked (moved_on cursor stop)
    × ReadsFurther (A.built a) asked cursor (moved_on cursor stop) x y
cursor-read_ahead A a asked cursor stop x y tells standard free stands open_ goes cost =
    let b : Built = A.built a in
    let s : Search = searched b asked in
    let to : ℕ = asked.span.end in
    let bytes : List ℕ = slice_range asked.haystack cursor.at to in
    let part = front-part asked.haystack cursor.at to (omega (arith, open_)) in
    let goes_on : AdvancesToMatch (A.Reaches a No) (A.matches a) cursor.sid bytes stop =
    subst (λ l. AdvancesToMatch (A.Reaches a No) (A.matches a) cursor.sid l stop) part goes in
    let costs_so : IsReadCost b (A.Reaches a) No cursor.sid (take stop.taken bytes) x y =
    subst (λ l. IsReadCost b (A.Reaches a) No cursor.sid (take stop.taken l) x y) part cost in
    let long = slice_range-length asked.haystack cursor.at (omega (arith, open_)) stands.inside in
    let there : IsCursor (A.Reaches a No) s cursor =
    subst (λ anchored. IsCursor (A.Reaches a anchored) s cursor) free stands in
    let before : cursor.at ≤ to = omega (arith, open_) in
    let within : to ≤ s.end = omega arith in
    let some : 0 < stop.taken = goes_on.taken.1 (omega (arith, long, open_)) in
    let fits : stop.taken ≤ to - cursor.at = omega (arith, goes_on.taken.0, long) in (
      subst (λ anchored. IsCursor (A.Reaches a anchored) s (moved_on cursor stop)) (sym free)
          (cursor-read_to stop.sid to stop.taken there before within fits goes_on.reads),
      subst (λ anchored. HasReadOn b anchored s cursor (moved_on cursor stop) x y) (sym free)
          (cursor-read_to_match b (A.Reaches a) (A.matches a) stop.sid to stop.taken x y standard there before
          within some fits tells goes_on.plain costs_so),
    )

-- a search that isn't begun anew after a match goes on from the state that matched
pub onward-stays : (matches : StateID → List ℕ) (sid : StateID) → onward matches None sid ≡ sid
onward-stays matches sid = by (is_matching matches sid)
  where
    by : (matching : Bool) → (if matching then sid else sid) ≡ sid
    by true = refl
    by false = refl

-- ---- what the bytes passed cost

-- as many looks more than `base` as `to` has more than `from`
abbrev pub more_looks : Steps → Steps → Steps → Steps
more_looks base from to =
    record base { looked = record base.looked { value = base.looked.value + (to.looked.value - from.looked.value) } }

-- A walk read on at a cost, which is as great on top of other counts.
pub record CostsOn (b : Built) (asked : Asked) (cursor next : Cursor) (from to base : Steps) : Type 0 where
  pub rose : from.looked.value ≤ to.looked.value
  pub scanned : to.scanned.value ≡ from.scanned.value
  pub moved : to.moved.value ≡ from.moved.value
  pub on : ReadsFurther b asked cursor next base (more_looks base from to)

-- what reading on costs, on top of other counts
costs-on : (b : Built) (asked : Asked) (cursor next : Cursor) (from to base : Steps)
    → ReadsFurther b asked cursor next from to → CostsOn b asked cursor next from to base
costs-on b asked cursor next from to base on =
    let all = on.lookups (live-some).0 (live-some).0 (live-some).1 (live-some).1 in
    record {
      rose = omega (arith, all.some);
      scanned = all.scanned;
      moved = all.moved;
      on = record {
        further = on.further;
        quiet = on.quiet;
        lookups = λ one two is was.
            let done = on.lookups one two is was in
            record {
              some = omega (arith, done.some);
              bound = omega (arith, done.bound, done.some);
              one = λ d. let e = done.one d in omega (arith, e);
              scanned = refl;
              moved = refl;
            };
      };
    }

-- where a call makes no look, nothing is to be settled
pub settles-none : (ahead : Ahead) (steps : Steps) → Settles ahead ahead steps steps
settles-none ahead steps = record { looked = refl; scanned = refl; moved = refl }

-- what the bytes of two calls in turn cost adds up
settles-then : (first mid last : Ahead) (one two paid more : Steps) → Settles first mid one paid
    → Settles mid last two more
    → one.looked.value ≤ more.looked.value → more.scanned.value ≡ one.scanned.value → more.moved.value ≡ one.moved.value
    → Settles first last two (more_looks paid one more)
settles-then first mid last one two paid more a b rose scanned moved =
    let e = a.looked in
    let f = b.looked in
    let h = a.scanned in
    let i = b.scanned in
    let j = a.moved in
    let k = b.moved in
    record {
      looked = omega (arith, e, f, rose);
      scanned = omega (arith, h, i, scanned);
      moved = omega (arith, j, k, moved);
    }

-- a walk reads on to the next state that matches, and what it has passed is paid for
pub walked-paid : {S : Type 0} (A : Ghosts S) (a : S) (asked : Asked) (first cursor next : Cursor)
    (begun there last : Ahead) (x paid y more z : Steps)
    → MayShow A a asked first → HasWalkedFrom A a asked first cursor (cursor.at + 1) x paid → Settles begun there y paid
    → StandsIn (A.built a) (A.Reaches a) asked next → next.from ≡ cursor.from
    → ReadsFurther (A.built a) asked cursor next y more → Settles there last z more
    → IsPaid begun last z (λ all. HasWalkedFrom A a asked first next next.at x all)
walked-paid A a asked first cursor next begun there last x paid y more z may had one stands same on two =
    let b : Built = A.built a in
    let s : Search = searched b asked in
    let live = live-some {m = b.dictionary} {anchored = is_anchored asked.anchored}
    {text = read_to (walked s cursor) cursor.at} in
    let live_after = live-some {m = b.dictionary} {anchored = is_anchored asked.anchored}
    {text = read_to (starting_at s cursor.from) next.at} in
    let cost = costs-on b asked cursor next y more paid on in (
      more_looks paid y more,
      settles-then begun there last y z paid more one two cost.rose cost.scanned cost.moved,
      walked-further next (more_looks paid y more) may had stands same cost.on,
    )

-- what is shown from a state's list costs nothing
pub shown-costs : (b : Built) (asked : Asked) (cursor : Cursor) (index next : ℕ) (r : Shown) (x : Steps)
    → r.place ≡ At cursor.sid cursor.from cursor.at next
    → PaysAt b asked cursor index r x x × CountsFrom b asked cursor.at r x x
shown-costs b asked cursor index next r x place =
    let s : Search = searched b asked in (
      record {
        looks = λ looks more paid e.
            let same : looks ≡ more = omega (arith, e) in
            subst (λ p. IsPlacePaid b.dictionary b.deterministic s p more) (sym place)
            (subst (IsPaidAt b.dictionary b.deterministic s cursor.from cursor.at) same paid);
        scans = λ scans more le e. subst (λ p. more ≤ 256 * (come_to s p - s.start)) (sym place) (omega (arith, le, e));
        moved = refl;
      },
      subst (λ p. CountsFrom b asked cursor.at (record r { place = p }) x x) (sym place)
          (walk-counts (prefilter_for b asked.anchored) (cursor.at - cursor.at) x x refl (omega arith)),
    )

-- where the search is over, a call costs nothing
pub over-costs : (b : Built) (asked : Asked) (place : Position) (r : Shown) (x : Steps) → place ≡ Over → r.place ≡ Over
    → KeepsPaying b asked place r x x × CountsOn b asked place r x x
over-costs b asked place r x is over =
    let s : Search = searched b asked in
    let same : place ≡ r.place = is ∙ sym over in (
      record {
        looks = λ looks more paid e.
            let one : looks ≡ more = omega (arith, e) in
            subst (λ p. IsPlacePaid b.dictionary b.deterministic s p more) same
            (subst (IsPlacePaid b.dictionary b.deterministic s place) one paid);
        scans = λ scans more le e. subst (λ p. more ≤ 256 * (come_to s p - s.start)) same (omega (arith, le, e));
        moved = refl;
      },
      subst (λ p. CountsOn b asked p r x x) (sym same)
          (walk-counts (prefilter_for b asked.anchored) (stands_at_least s r.place - stands_at_least s r.place) x x refl
          (omega arith)),
    )

-- ---- what is left of what was read ahead

-- at the end of the span nothing is left
pub over-ahead : {S : Type 0} (A : Ghosts S) (a : S) (asked : Asked) (cursor : Cursor) (place : Position)
    (ahead : Ahead)
    → (A.built a).dictionary.kind ≡ Standard → cursor.at ≡ asked.span.end → asked.span.end ≤ length asked.haystack
    → place ≡ Over → IsAheadFrom A a asked cursor ahead → IsAheadAt A a asked place ahead
over-ahead A a asked cursor place ahead standard end inside is known =
    let text : List ℕ = take asked.span.end asked.haystack in
    let long : cursor.at ≡ length text = end ∙ sym (length-take-le asked.span.end asked.haystack inside) in
    subst (λ p. IsAheadAt A a asked p ahead) (sym is) (ahead-over standard long known).1

-- where something is shown, it stays
pub shown-ahead : {S : Type 0} (A : Ghosts S) (a : S) (asked : Asked) (cursor : Cursor) (place : Position)
    (ahead : Ahead)
    → asked.anchored ≡ No → ((place ≡ Over) × (asked.anchored ≡ Yes))
    ⊎ ((index : ℕ) × (place ≡ At cursor.sid cursor.from cursor.at index)) → IsAheadFrom A a asked cursor ahead
    → IsAheadAt A a asked place ahead
shown-ahead A a asked cursor place ahead free where_ known =
    ⊎_elim
    (λ (over : (place ≡ Over) × (asked.anchored ≡ Yes)). let e : No ≡ Yes = sym free ∙ over.1 in cc)
    (λ (here : (index : ℕ) × (place ≡ At cursor.sid cursor.from cursor.at index)).
    subst (λ p. IsAheadAt A a asked p ahead) (sym here.1) known)
    where_

-- where no note is left and nothing was lost, nothing was read ahead of a search that stands anywhere
pub first-ahead : {S : Type 0} (reads_ahead : Bool) (A : Ghosts S) (a : S) (asked : Asked) (place : Position)
    (ahead : Ahead)
    → ahead.end ≤ length ahead.notes → left_notes ahead ≡ [] → bytes_ahead ahead ≡ 0
    → IsAheadIf reads_ahead A a asked place ahead
first-ahead false A a asked place ahead room left none = none
first-ahead true A a asked Over ahead room left none = none
first-ahead true A a asked (At sid from at index) ahead room left none =
    ahead-none room left (λ standard. omega (arith, none)) (λ _. none)

-- What was read ahead of a search is at most `most_ahead` bytes, and lies between where the search stands and the end
-- of the span.
abbrev pub LiesAhead : {S : Type 0} → Ghosts S → S → Asked → Position → Ahead → Type 0
LiesAhead A a asked place ahead =
    (come_to (searched (A.built a) asked) place - asked.span.start + bytes_ahead ahead
    ≤ asked.span.end - asked.span.start) × (bytes_ahead ahead ≤ most_ahead)

-- a search has come no further than to the end of the span
come-within : {S : Type 0} (A : Ghosts S) (a : S) (asked : Asked) (place : Position) (left : List Occurrence)
    → IsLeftAt A a asked place left → come_to (searched (A.built a) asked) place ≤ asked.span.end
come-within A a asked (At sid from at index) left is = is.0.within
come-within A a asked Over left is = omega arith

-- what was read ahead of a search lies before the end of the span
lies-ahead : {S : Type 0} (reads_ahead : Bool) (A : Ghosts S) (a : S) (asked : Asked) (place : Position)
    (left : List Occurrence) (ahead : Ahead)
    → (A.built a).dictionary.kind ≡ Standard → IsLeftAt A a asked place left
    → IsAheadIf reads_ahead A a asked place ahead → LiesAhead A a asked place ahead
lies-ahead false A a asked place left ahead standard is known = let within = come-within A a asked place left is in
    (omega (arith, known, within), omega (arith, known))
lies-ahead true A a asked Over left ahead standard is known = (omega (arith, known), omega (arith, known))
lies-ahead true A a asked (At sid from at index) left ahead standard is known =
    let text : List ℕ = take asked.span.end asked.haystack in
    let there = is.0 in
    let long : length text ≡ asked.span.end = length-take-le asked.span.end asked.haystack there.inside in
    let within = ahead-within standard (omega (arith, long, there.within)) known in
    (omega (arith, long, within.0, there.behind, there.ordered), within.1)

-- the bytes up to where a search stands pay for its looks
paid-here : {S : Type 0} (A : Ghosts S) (a : S) (asked : Asked) (place : Position) (left : List Occurrence) (looks : ℕ)
    → IsLeftAt A a asked place left
    → IsPlacePaid (A.built a).dictionary (A.built a).deterministic (searched (A.built a) asked) place looks
    → looks ≤ lookups_per_byte (A.built a).deterministic
    * (come_to (searched (A.built a) asked) place - asked.span.start)
paid-here A a asked (At sid from at index) left looks is paid =
    let s = searched (A.built a) asked in
    paid-to (A.built a).dictionary (A.built a).deterministic s from at at looks
    (omega (arith, is.0.behind, is.0.ordered)) (omega arith) paid
paid-here A a asked Over left looks is paid = paid

-- looks for the bytes passed, and those ahead of them, are within one walk and not far ahead
looks-within : (deterministic : Bool) (looked less ahead passed span : ℕ) → looked ≤ less + ahead
    → less ≤ lookups_per_byte deterministic * passed → passed + ahead ≤ span → ahead ≤ most_ahead
    → (looked ≤ lookups_per_byte deterministic * span) × (looked ≤ lookups_per_byte deterministic * passed + most_ahead)
looks-within true looked less ahead passed span all paid within few = (omega arith, omega arith)
looks-within false looked less ahead passed span all paid within few = (omega arith, omega arith)

-- what a run has looked at is within one walk, and no further than `most_ahead` bytes ahead of where it stands
pub run-looks : {S : Type 0} (reads_ahead : Bool) (A : Ghosts S) (a : S) (asked : Asked) {place : Position}
    {shown : ℕ} (sums : Steps) (ahead : Ahead) → (A.built a).dictionary.kind ≡ Standard
    → StandsAt (A.Reaches a asked.anchored) (A.matches a) (A.built a).dictionary (A.built a).deterministic
    (searched (A.built a) asked) place shown (less_ahead sums ahead)
    → IsAheadIf reads_ahead A a asked place ahead
    → (sums.looked.value ≤ lookups_per_byte (A.built a).deterministic * (asked.span.end - asked.span.start))
    × (sums.looked.value ≤ lookups_per_byte (A.built a).deterministic
    * (come_to (searched (A.built a) asked) place - asked.span.start) + most_ahead)
run-looks reads_ahead A a asked {place} sums ahead standard stands known =
    let lies = lies-ahead reads_ahead A a asked place _ ahead standard stands.left known in
    looks-within (A.built a).deterministic sums.looked.value (sums.looked.value - bytes_ahead ahead) (bytes_ahead ahead)
    (come_to (searched (A.built a) asked) place - asked.span.start) (asked.span.end - asked.span.start)
    (omega arith) (paid-here A a asked place _ _ stands.left stands.paid) lies.0 lies.1

-- an unanchored search that shows something has come to its end, and no further
pub come-shown : (b : Built) (asked : Asked) (place : Position) (found : Option Occurrence) → asked.anchored ≡ No
    → come_at_least (searched b asked) found ≡ stands_at_least (searched b asked) place
    → come_to (searched b asked) place ≡ come_at_least (searched b asked) found
come-shown b asked place found free come = sym (come ∙ by place)
  where
    by : (place : Position) → stands_at_least (searched b asked) place ≡ come_to (searched b asked) place
    by (At sid from at index) = refl
    by Over = ap (λ anchored. if is_anchored anchored then asked.span.start else asked.span.end) free

-- where a run stands that has shown nothing
pub first-run : {S : Type 0} (A : Ghosts S) (a : S) (asked : Asked) (place : Position) (count : ℕ) {sums : Steps}
    (ahead : Ahead) → IsLeftAt A a asked place (listing_in (A.built a) asked)
    → IsPlacePaid (A.built a).dictionary (A.built a).deterministic (searched (A.built a) asked) place 0 → count ≡ 0
    → AreNone sums
    → StandsAt (A.Reaches a asked.anchored) (A.matches a) (A.built a).dictionary (A.built a).deterministic
    (searched (A.built a) asked) place count (less_ahead sums ahead)
first-run A a asked place count {sums} ahead left paid none fresh =
    let looks : 0 ≡ sums.looked.value - bytes_ahead ahead = omega (arith, fresh.looked) in
    record {
      left = subst (λ n. IsLeftAt A a asked place (drop n (listing_in (A.built a) asked))) (sym none) left;
      paid = subst (IsPlacePaid (A.built a).dictionary (A.built a).deterministic (searched (A.built a) asked) place)
          looks paid;
      scanned = omega (arith, fresh.scanned);
      moved = fresh.moved;
    }

-- What a call of a run leaves: what was shown, and where the run stands, with the looks for the bytes that it has
-- passed.
pub record HasRun {S : Type 0} (A : Ghosts S) (a : S) (asked : Asked) (n : ℕ) (r : Shown) (number : ℕ) (sums : Steps)
    (ahead : Ahead) : Type 0 where
  pub shows : ShowsFirst (A.Reaches a asked.anchored) (A.matches a) (A.built a).dictionary (searched (A.built a) asked)
      (drop n (listing_in (A.built a) asked)) r
  pub stands : StandsAt (A.Reaches a asked.anchored) (A.matches a) (A.built a).dictionary (A.built a).deterministic
      (searched (A.built a) asked) r.place number (less_ahead sums ahead)
  pub counted : IsCountedTo (A.built a) asked (stands_at_least (searched (A.built a) asked) r.place)
      (less_ahead sums ahead)
  pub made : bytes_ahead ahead ≤ sums.looked.value

-- a call of a run that adds its looks to the sums
pub run-on : {S : Type 0} (A : Ghosts S) (a : S) (asked : Asked) {place : Position} {n : ℕ} (r : Shown) (number : ℕ)
    (sums more : Steps) {fresh : Steps} (taken : Steps) (before after : Ahead)
    → StandsAt (A.Reaches a asked.anchored) (A.matches a) (A.built a).dictionary (A.built a).deterministic
    (searched (A.built a) asked) place n (less_ahead sums before)
    → IsCountedTo (A.built a) asked (stands_at_least (searched (A.built a) asked) place) (less_ahead sums before)
    → bytes_ahead before ≤ sums.looked.value → ShowsNextAt A a asked place r
    → PaysAhead (A.built a) asked place r before after fresh taken
    → AreNone fresh → Added taken sums more → number ≡ and_one r.found n
    → HasRun A a asked n r number more after
run-on A a asked {place} {n} r number sums more {fresh} taken before after stands counted made shows paid none added
    numbered =
    let b : Built = A.built a in
    let s : Search = searched b asked in
    let R = A.Reaches a asked.anchored in
    let E = A.matches a in
    let first = shows (drop n (listing_of s)) stands.left in
    let less = less-added none paid.1 added made in
    let there = stands-after r
    (less_ahead more after) stands first paid.2.0 none less.0 in
    record {
      shows = first;
      stands =
          subst (λ k. StandsAt R E b.dictionary b.deterministic s r.place k (less_ahead more after)) (sym numbered)
          there;
      counted = counted-after b asked place r (less_ahead sums before) paid.0 (less_ahead more after) counted
          paid.2.1 none less.0;
      made = less.1;
    }

-- what the looks for the bytes passed count, all looks count
pub less-counted : (b : Built) (asked : Asked) (at : ℕ) (sums : Steps) (ahead : Ahead)
    → IsCountedTo b asked at (less_ahead sums ahead) → IsCountedTo b asked at sums
less-counted b asked at sums ahead had = λ counts. by (prefilter_for b asked.anchored) (had counts)
  where
    by : (filter : Option Filter)
        → at - asked.span.start ≤ bytes_counted filter (sums.looked.value - bytes_ahead ahead) sums.scanned.value
        → at - asked.span.start ≤ bytes_counted filter sums.looked.value sums.scanned.value
    by None le = omega (arith, le)
    by (Some f) le = omega (arith, le)
