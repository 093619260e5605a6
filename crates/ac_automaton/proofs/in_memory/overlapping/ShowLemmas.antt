-- What an overlapping search shows where its walk stands, and how reading on there ends.
use Rattle.std.proofs.Common.{◌≡◌, ◌⊎◌, ⊎_elim, ℕ, ◌+◌, ◌-◌, ◌<◌, ◌≤◌, List, [], length, Option, Some, None, if◌then◌else◌, inl, inr, sym, ap, subst, refl, ◌∙◌, arith}
use Rattle.std.proofs.lemmas.Bool.{false≢true}
use Rattle.ac_input.specs.declared.search.Anchored.{Anchored}
use Rattle.ac_input.specs.declared.search.Anchored.TheVariants.{No, Yes}
use Rattle.ac_input.specs.declared.search.MatchKind.TheVariants.{Standard}
use Rattle.ac_input.specs.declared.steps.Steps.{Steps}
use Rattle.ac_input.specs.Computed.{listing_of}
use Rattle.ac_input.specs.Dictionary.{Dictionary, IsLive}
use Rattle.ac_input.specs.Input.{Asked, is_anchored}
use Rattle.ac_input.specs.Occurrence.{starting_at}
use Rattle.ac_input.specs.Tells.{Tells}
use Rattle.ac_automaton.specs.Automaton.{Built, searched}
use Rattle.ac_automaton.specs.InMemory.Find.Cursor.{IsCursor, ReadsFurther, StandsIn, read_to, walked}
use Rattle.ac_automaton.specs.declared.in_memory.find.cursor.Cursor.{Cursor}
use Rattle.ac_automaton.specs.declared.in_memory.find.cursor.End.{End}
use Rattle.ac_automaton.specs.declared.in_memory.find.cursor.End.TheVariants.{Found, Idle}
use Rattle.ac_automaton.specs.declared.in_memory.overlapping.Position.{Position}
use Rattle.ac_automaton.specs.declared.in_memory.overlapping.Position.TheVariants.{At, Over}
use Rattle.ac_automaton.specs.declared.in_memory.overlapping.Shown.{Shown}
use Rattle.ac_automaton.specs.InMemory.Overlapping.OverlappingSearch.{EndsHere, MayShow, PaysOn, ShowsHere, ShowsLater, told_at}
use Rattle.ac_automaton.specs.declared.automaton.Automaton.{Ghosts}
use Rattle.ac_automaton.specs.InMemory.Overlapping.{ending_from, occurrences_from, TellsFirst, ShowsFirst, IsPast, IsPaidBy, OnlyLooked, stands_at_least, read_at_least}
use Rattle.ac_automaton.proofs.in_memory.overlapping.OverlappingLemmas.{IsPlace, ending_from-dead, ending_from-end, ending_from-split, place_of-cursor}
use Rattle.ac_automaton.proofs.lemmas.CandidateLemmas.{over-reads}
use Rattle.ac_automaton.proofs.in_memory.find.CountedLemmas.{come-none}
use Rattle.ac_automaton.proofs.lemmas.WalkEndLemmas.{end-begins}
use Rattle.ac_automaton.proofs.in_memory.overlapping.OverlappingReadLemmas.{HasWalkedOn, shows-none, shows-some, pays-over, pays-at, pays-back, read_on-settled, read_on-start, walked_on-further}

-- under the standard kind only an anchored search's text can be dead
dead-anchored : (m : Dictionary) (anchored : Anchored) (text : List ℕ) → m.kind ≡ Standard
    → IsLive m (is_anchored anchored) text None → anchored ≡ Yes
dead-anchored m Yes text standard dead = refl
dead-anchored m No text standard dead =
    absurd (dead (length text)
    (record {
      within = omega arith;
      begins = end-begins m text;
      anchor = λ a. absurd (false≢true a);
      no_later = inr (inl standard);
    }))

-- where the state is dead, nothing more is shown
pub shows-dead : {S : Type 0} (A : Ghosts S) (a : S) (asked : Asked) {cursor : Cursor} (r : Shown)
    → (A.built a).dictionary.kind ≡ Standard
    → IsCursor (A.Reaches a asked.anchored) (searched (A.built a) asked) cursor
    → IsLive (A.built a).dictionary (is_anchored asked.anchored)
    (read_to (walked (searched (A.built a) asked) cursor) cursor.at) None
    → r.found ≡ None → r.place ≡ Over → ShowsHere A a asked cursor (Some r)
shows-dead A a asked {cursor} r standard is dead found place =
    let s = searched (A.built a) asked in
    let at = place_of-cursor (A.built a).dictionary asked standard is in
    let none = ending_from-dead at dead in (
      shows-none (A.Reaches a asked.anchored) (A.matches a) (A.built a).dictionary s
          (ending_from (walked s cursor) cursor.at) r none found place,
      inl (
        place,
        dead-anchored (A.built a).dictionary asked.anchored (read_to (walked s cursor) cursor.at) standard dead,
      ),
    )

-- where the state isn't dead, the first of its occurrences is shown
pub shows-told : {S : Type 0} (A : Ghosts S) (a : S) (asked : Asked) {cursor : Cursor} (r : Option Shown)
    → (A.built a).dictionary.kind ≡ Standard
    → IsCursor (A.Reaches a asked.anchored) (searched (A.built a) asked) cursor
    → Tells (A.built a).dictionary asked.anchored (read_to (walked (searched (A.built a) asked) cursor) cursor.at)
    (A.matches a cursor.sid)
    → TellsFirst (A.matches a) (A.built a).dictionary (searched (A.built a) asked) cursor 0 r
    → ShowsHere A a asked cursor r
shows-told A a asked None standard is tells told = told
shows-told A a asked {cursor} (Some r) standard is tells (o, next, found, place, told) =
    let s = searched (A.built a) asked in
    let at = place_of-cursor (A.built a).dictionary asked standard is in
    let split = ending_from-split
    (A.matches a cursor.sid) at tells in (
      shows-some (A.Reaches a asked.anchored) (A.matches a) (A.built a).dictionary s
          (ending_from (walked s cursor) cursor.at) cursor 0 r is split (o, next, found, place, told),
      inr (next, place),
    )

-- a search that stands at a further place stands after an earlier one
shown-behind : (at : ℕ) (anchored : Anchored) (cursor : Cursor) (place : Position) → at < cursor.at
    → ((place ≡ Over) × (anchored ≡ Yes)) ⊎ ((index : ℕ) × (place ≡ At cursor.sid cursor.from cursor.at index))
    → IsPast at place
shown-behind at anchored cursor place lt where_ =
    ⊎_elim
    (λ (over : (place ≡ Over) × (anchored ≡ Yes)). subst (IsPast at) (sym over.0) tt)
    (λ (here : (index : ℕ) × (place ≡ At cursor.sid cursor.from cursor.at index)). subst (IsPast at) (sym here.1) lt)
    where_

-- A walk has read on from one place to another. Occurrences that end after the first place end from `next` on, and its
-- looks are paid for.
pub record HasWalkedFrom {S : Type 0} (A : Ghosts S) (a : S) (asked : Asked) (first cursor : Cursor) (next : ℕ)
    (x y : Steps) : Type 0 where
  pub stands : StandsIn (A.built a) (A.Reaches a) asked cursor
  pub begun : cursor.from ≡ first.from
  pub since : first.at < next
  pub on : HasWalkedOn (A.Reaches a asked.anchored) (A.built a).dictionary (A.built a).deterministic
      (searched (A.built a) asked) first.from first.at cursor.at next cursor.sid x y

-- How reading on from a place ended: what was shown, and what it cost.
pub record HasShownEnd {S : Type 0} (A : Ghosts S) (a : S) (asked : Asked) (first : Cursor) (end : End Shown)
    (x y : Steps) : Type 0 where
  pub reads : ShowsLater A a asked first end
  pub pays : PaysOn (A.built a) asked first end x y
  pub only : OnlyLooked x y
  pub looks : (x.looked.value + (read_at_least (searched (A.built a) asked) end - first.at) ≤ y.looked.value)

-- at first the walk has read nothing
pub walked-first : {S : Type 0} (A : Ghosts S) (a : S) (asked : Asked) (first : Cursor) (x : Steps)
    → StandsIn (A.built a) (A.Reaches a) asked first → HasWalkedFrom A a asked first first (first.at + 1) x x
walked-first A a asked first x stands =
    record { stands = stands; begun = refl; since = omega arith; on = read_on-start _ _ _ _ _ _ _ _ stands.reads }

-- the walk reads on to the next special state
pub walked-further : {S : Type 0} {A : Ghosts S} {a : S} {asked : Asked} {first cursor : Cursor} (next : Cursor)
    {x y : Steps} (z : Steps) → MayShow A a asked first → HasWalkedFrom A a asked first cursor (cursor.at + 1) x y
    → StandsIn (A.built a) (A.Reaches a) asked next → next.from ≡ cursor.from
    → ReadsFurther (A.built a) asked cursor next y z
    → HasWalkedFrom A a asked first next next.at x z
walked-further {A} {a} {asked} {cursor} next z may walked there same further =
    let R = A.Reaches a asked.anchored in
    let b = A.built a in
    let s = searched b asked in
    let begun = same ∙ walked.begun in
    let place = subst (λ f. IsPlace b.dictionary asked.anchored (starting_at s f) cursor.at) walked.begun
    (place_of-cursor b.dictionary asked may.standard walked.stands) in
    record {
      stands = there;
      begun = begun;
      since = omega (arith, further.further, walked.since);
      on = walked_on-further place may.cursor.behind
          walked.begun refl there begun further walked.on;
    }

-- where the state has no occurrence, what is left ends after its place
pub walked-settled : {S : Type 0} (A : Ghosts S) (a : S) (asked : Asked) (first cursor : Cursor) (x y : Steps)
    → (A.built a).dictionary.kind ≡ Standard
    → Tells (A.built a).dictionary asked.anchored (read_to (walked (searched (A.built a) asked) cursor) cursor.at)
    (A.matches a cursor.sid)
    → told_at A a asked cursor 0 ≡ [] → HasWalkedFrom A a asked first cursor cursor.at x y
    → HasWalkedFrom A a asked first cursor (cursor.at + 1) x y
walked-settled A a asked first cursor x y standard tells none had =
    let m = (A.built a).dictionary in
    let s = searched (A.built a) asked in
    let place = place_of-cursor m asked standard had.stands in
    record {
      stands = had.stands;
      begun = had.begun;
      since = omega (arith, had.since);
      on = read_on-settled (A.matches a cursor.sid)
          (subst (λ f. IsPlace m asked.anchored (starting_at s f) cursor.at) had.begun place)
          (subst (λ f. Tells m asked.anchored (read_to (starting_at s f) cursor.at) (A.matches a cursor.sid)) had.begun
          tells)
          (subst (λ f. occurrences_from m (starting_at s f) cursor.at (A.matches a cursor.sid) 0 ≡ []) had.begun none)
          had.on;
    }

-- at the end of the span the search is over and shows nothing
pub walked-over : {S : Type 0} (A : Ghosts S) (a : S) (asked : Asked) (first cursor : Cursor) (r : Shown) (x y : Steps)
    → HasWalkedFrom A a asked first cursor (cursor.at + 1) x y
    → cursor.at ≡ asked.span.end → r.found ≡ None → r.place ≡ Over → HasShownEnd A a asked first (Found r) x y
walked-over A a asked first cursor r x y had end found place =
    let R = A.Reaches a asked.anchored in
    let b = A.built a in
    let s = searched b asked in
    let stands = had.stands in
    let past = ending_from-end (starting_at s first.from) (cursor.at + 1) stands.inside (omega arith) in
    record {
      reads = over-reads R (A.matches a) b.dictionary s first.at (ending_from (starting_at s first.from) (first.at + 1))
          r (had.on.later ∙ past) found place;
      pays = pays-over r
          (omega (arith, stands.behind, stands.ordered)) stands.within had.on place;
      only = had.on.only;
      looks =
          let come = come-none s in
          let looked = had.on.looks in
          let none : x.looked.value + (stands_at_least s Over - first.at) ≤ y.looked.value =
          omega (arith, stands.behind, stands.ordered) in
          subst (λ p. x.looked.value + (stands_at_least s p - first.at) ≤ y.looked.value) (sym place) none;
    }

-- a search that shows something where a walk stands has looked at a state for each byte that it passed
shown-looks : (b : Built) (asked : Asked) (at : ℕ) (cursor : Cursor) (r : Shown) (x y : Steps)
    → asked.span.start ≤ cursor.at → x.looked.value + (cursor.at - at) ≤ y.looked.value
    → ((r.place ≡ Over) × (asked.anchored ≡ Yes))
    ⊎ ((index : ℕ) × (r.place ≡ At cursor.sid cursor.from cursor.at index))
    → (x.looked.value + (read_at_least (searched b asked) (Found r) - at) ≤ y.looked.value)
shown-looks b asked at cursor r x y begun looks where_ =
    ⊎_elim
    (λ (over : (r.place ≡ Over) × (asked.anchored ≡ Yes)).
    let none : x.looked.value + ((if is_anchored Yes then asked.span.start else asked.span.end) - at) ≤ y.looked.value =
    omega arith in
    subst (λ p. x.looked.value + (stands_at_least (searched b asked) p - at) ≤ y.looked.value) (sym over.0)
    (subst (λ a. x.looked.value + ((if is_anchored a then asked.span.start else asked.span.end) - at) ≤ y.looked.value)
    (sym over.1) none))
    (λ (here : (index : ℕ) × (r.place ≡ At cursor.sid cursor.from cursor.at index)).
    subst (λ p. x.looked.value + (stands_at_least (searched b asked) p - at) ≤ y.looked.value) (sym here.1) looks)
    where_

-- what is shown where a walk stands, and what that costs
walked-shows : {S : Type 0} {A : Ghosts S} {a : S} {asked : Asked} {first cursor : Cursor} (r : Shown) {x y : Steps}
    → HasWalkedFrom A a asked first cursor cursor.at x y → ShowsHere A a asked cursor (Some r)
    → HasShownEnd A a asked first (Found r) x y
walked-shows {A} {a} {asked} {first} {cursor} r {x} {y} had shows =
    let R = A.Reaches a asked.anchored in
    let b = A.built a in
    let s = searched b asked in
    let stands = had.stands in
    let same : ending_from (walked s cursor) cursor.at ≡ ending_from (starting_at s first.from) cursor.at =
    ap (λ f. ending_from (starting_at s f) cursor.at) had.begun in
    record {
      reads = (
        subst (λ left. ShowsFirst R (A.matches a) b.dictionary s left r) (same ∙ sym had.on.later) shows.0,
        shown-behind first.at asked.anchored cursor r.place had.since shows.1,
      );
      pays = ⊎_elim
          (λ (over : (r.place ≡ Over) × (asked.anchored ≡ Yes)).
          pays-over r
          (omega (arith, stands.behind, stands.ordered)) stands.within had.on over.0)
          (λ (here : (index : ℕ) × (r.place ≡ At cursor.sid cursor.from cursor.at index)).
          pays-at cursor.sid
          here.0 r had.on (here.1 ∙ ap (λ f. At cursor.sid f cursor.at here.0) had.begun))
          shows.1;
      only = had.on.only;
      looks = shown-looks (A.built a) asked first.at cursor r x y (omega (arith, stands.behind, stands.ordered))
          had.on.looks shows.1;
    }

-- how reading on ends where a walk stands
pub walked-ends : {S : Type 0} (A : Ghosts S) (a : S) (asked : Asked) (first cursor : Cursor) (end : End Shown)
    (x y : Steps)
    → HasWalkedFrom A a asked first cursor cursor.at x y → EndsHere A a asked cursor (Some end)
    → HasShownEnd A a asked first end x y
walked-ends A a asked first cursor (Found r) x y had ends = walked-shows r had ends
walked-ends A a asked first cursor (Idle to) x y had (here, left, restart) =
    let b = A.built a in
    let s = searched b asked in
    let stands = had.stands in
    let since = had.since in
    let same : ending_from (starting_at s first.from) cursor.at ≡ ending_from (walked s cursor) cursor.at =
    ap (λ f. ending_from (starting_at s f) cursor.at) (sym had.begun) in
    record {
      reads = (
        omega arith,
        omega (arith, stands.within),
        had.on.later ∙ same ∙ left ∙ ap (λ n. listing_of (starting_at s n)) (sym here),
        restart,
      );
      pays = λ looks more paid e.
          subst (λ n. IsPaidBy b.dictionary b.deterministic s (Idle n) more) (sym here)
          (pays-back (omega (arith, stands.behind, stands.ordered)) had.on looks more paid e);
      only = had.on.only;
      looks = subst (λ n. x.looked.value + (n - first.at) ≤ y.looked.value) (sym here) had.on.looks;
    }
