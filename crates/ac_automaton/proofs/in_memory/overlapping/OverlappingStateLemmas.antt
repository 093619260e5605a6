-- What the state of an overlapping search keeps between calls, and what its clone does.
use Rattle.std.proofs.Common.{◌≡◌, ⊎_elim, ℕ, zero, suc, ◌+◌, ◌-◌, ◌*◌, ◌≤◌, Bool, List, [], ◌∷◌, take, drop, Option, Some, None, MatchOption, is_some, if◌then◌else◌, unwrap_or, slice_get, sym, ap, subst, refl, ◌∙◌, arith}
use Rattle.std.proofs.lemmas.List.{drop-drop}
use Rattle.ac_input.specs.declared.search.Anchored.{Anchored}
use Rattle.ac_input.specs.Number.{StateID}
use Rattle.ac_input.specs.declared.history.Count.{Count}
use Rattle.ac_input.specs.declared.steps.Steps.{Steps}
use Rattle.ac_input.specs.Occurrence.{Search, Occurrence}
use Rattle.ac_input.specs.Computed.{listing_of}
use Rattle.ac_input.specs.Input.{Asked}
use Rattle.ac_input.specs.Dictionary.{Dictionary}
use Rattle.ac_input.specs.Steps.{AreNone, Added}
use Rattle.ac_input.specs.Work.{come_at_least, lookups_per_byte}
use Rattle.ac_automaton.specs.declared.in_memory.overlapping.OverlappingState.{OverlappingState}
use Rattle.ac_automaton.specs.declared.in_memory.overlapping.Position.{Position}
use Rattle.ac_automaton.specs.declared.in_memory.overlapping.Position.TheVariants.{At, Over}
use Rattle.ac_automaton.specs.declared.in_memory.overlapping.Shown.{Shown}
use Rattle.ac_automaton.specs.InMemory.Overlapping.{come_to, IsLeft, ShowsFirst, IsPlacePaid, KeepsBudget, StandsAt, CameFrom, IsFreshState, IsOverlappingWork, IsOverlappingCost, IsCountedTo, stands_at_least}
use Rattle.ac_automaton.specs.InMemory.Overlapping.OverlappingSearch.{CountsOn}
use Rattle.ac_automaton.specs.InMemory.Find.Cursor.{read_to}
use Rattle.ac_automaton.specs.Automaton.{Built, prefilter_for, searched}
use Rattle.ac_automaton.proofs.in_memory.find.CountedLemmas.{counted-added}
use Rattle.ac_automaton.proofs.in_memory.overlapping.OverlappingReadLemmas.{paid-to}

-- ---- between calls

-- at the start nothing was read
pub read_to-start : (s : Search) → read_to s s.start ≡ []
read_to-start s = let none : s.start - s.start ≡ 0 = omega arith in ap (λ k. take k (drop s.start s.haystack)) none

-- the element at index n is the first after n elements
slice_get-drop : {X : Type 0} (xs : List X) (n : ℕ) → slice_get (drop n xs) 0 ≡ slice_get xs n
slice_get-drop [] zero = refl
slice_get-drop [] (suc n) = refl
slice_get-drop (x ∷ xs) zero = refl
slice_get-drop (x ∷ xs) (suc n) = slice_get-drop xs n

-- dropping n elements and then one drops n + 1
drop-one_more : {X : Type 0} (xs : List X) (n : ℕ) → drop 1 (drop n xs) ≡ drop (n + 1) xs
drop-one_more xs n = drop-drop 1 n xs

-- a list without a first element stays the same when its first is dropped
slice_get-none : {X : Type 0} (xs : List X) → None ≡ slice_get xs 0 → drop 1 xs ≡ xs
slice_get-none [] e = refl
slice_get-none (x ∷ xs) e = cc

-- a list without a first element is empty
slice_get-empty : {X : Type 0} (xs : List X) → None ≡ slice_get xs 0 → xs ≡ []
slice_get-empty [] e = refl
slice_get-empty (x ∷ xs) e = cc

-- a list with a first element is that element and the rest
slice_get-first : {X : Type 0} (xs : List X) (x : X) → Some x ≡ slice_get xs 0 → xs ≡ x ∷ drop 1 xs
slice_get-first [] x e = cc
slice_get-first (y ∷ ys) x e = cc

-- what is left after a call that showed the first of it
left-after : (L : List Occurrence) (n : ℕ) (found : Option Occurrence) → found ≡ slice_get (drop n L) 0
    → drop 1 (drop n L) ≡ drop (if is_some found then n + 1 else n) L
left-after L n None e = slice_get-none (drop n L) e
left-after L n (Some o) e = drop-one_more L n

-- where a search begins, or where earlier calls left it
pub came-stands : (b : Built) (Reaches : Anchored → List ℕ → StateID → Type 0) (matches : StateID → List ℕ)
    (asked : Asked) (state : OverlappingState) (first : Position)
    → IsLeft (Reaches asked.anchored) matches b.dictionary (searched b asked) first (listing_of (searched b asked))
    → IsPlacePaid b.dictionary b.deterministic (searched b asked) first 0
    → CameFrom b Reaches matches asked state
    → StandsAt (Reaches asked.anchored) matches b.dictionary b.deterministic (searched b asked)
    (unwrap_or state.place first) state.shown.value state.sums
came-stands b Reaches matches asked state first left paid came =
    let m = b.dictionary in
    let deterministic = b.deterministic in
    let s = searched b asked in
    ⊎_elim
    (λ (fresh : IsFreshState state).
    let there : StandsAt (Reaches asked.anchored) matches m deterministic s first state.shown.value state.sums =
    record {
      left = subst (λ n. IsLeft (Reaches asked.anchored) matches m s first (drop n (listing_of s))) (sym fresh.shown)
          left;
      paid = subst (λ n. IsPlacePaid m deterministic s first n) (sym fresh.sums.looked) paid;
      scanned = let none = fresh.sums.scanned in omega arith;
      moved = fresh.sums.moved;
    } in
    subst (λ p. StandsAt (Reaches asked.anchored) matches m deterministic s (unwrap_or p first) state.shown.value
    state.sums) (sym fresh.place) there)
    (λ (stands : (place : Position) × (state.place ≡ Some place)
    × StandsAt (Reaches asked.anchored) matches m deterministic s place state.shown.value state.sums
    × IsCountedTo b asked (stands_at_least (searched b asked) place) state.sums).
    subst (λ p. StandsAt (Reaches asked.anchored) matches m deterministic s (unwrap_or p first) state.shown.value
    state.sums) (sym stands.1) stands.2)
    came

-- up to the place where a search begins, nothing has to be counted
pub first-counted : (b : Built) (asked : Asked) (first : Position) (sums : Steps)
    → stands_at_least (searched b asked) first ≤ asked.span.start
    → IsCountedTo b asked (stands_at_least (searched b asked) first) sums
first-counted b asked first sums le = λ counts. omega arith

-- each byte is counted up to where a search begins, or where earlier calls left it
pub came-counted : (b : Built) (Reaches : Anchored → List ℕ → StateID → Type 0) (matches : StateID → List ℕ)
    (asked : Asked) (state : OverlappingState) (first : Position)
    → stands_at_least (searched b asked) first ≤ asked.span.start → CameFrom b Reaches matches asked state
    → IsCountedTo b asked (stands_at_least (searched b asked) (unwrap_or state.place first)) state.sums
came-counted b Reaches matches asked state first le came =
    ⊎_elim
    (λ (fresh : IsFreshState state).
    subst (λ p. IsCountedTo b asked (stands_at_least (searched b asked) (unwrap_or p first)) state.sums)
    (sym fresh.place) (first-counted b asked first state.sums le))
    (λ (stands : (place : Position) × (state.place ≡ Some place)
    × StandsAt (Reaches asked.anchored) matches b.dictionary b.deterministic (searched b asked) place state.shown.value
    state.sums × IsCountedTo b asked (stands_at_least (searched b asked) place) state.sums).
    subst (λ p. IsCountedTo b asked (stands_at_least (searched b asked) (unwrap_or p first)) state.sums) (sym stands.1)
    stands.3)
    came

-- each byte is counted up to where a search stands after a call
pub counted-after : (b : Built) (asked : Asked) (place : Position) (r : Shown) (sums : Steps) {start : Steps}
    (done after : Steps) → IsCountedTo b asked (stands_at_least (searched b asked) place) sums
    → CountsOn b asked place r start done
    → AreNone start → Added done sums after → IsCountedTo b asked (stands_at_least (searched b asked) r.place) after
counted-after b asked place r sums {start} done after had counts none added =
    counted-added (prefilter_for b asked.anchored) (stands_at_least (searched b asked) place - asked.span.start) _ _
    start done sums after (omega arith) none added had counts

-- each byte is counted up to the end of what a call showed
pub shown-counted : (b : Built) (asked : Asked) (r : Shown) (sums : Steps)
    → IsCountedTo b asked (stands_at_least (searched b asked) r.place) sums
    → come_at_least (searched b asked) r.found ≡ stands_at_least (searched b asked) r.place
    → IsCountedTo b asked (come_at_least (searched b asked) r.found) sums
shown-counted b asked r sums had come = subst (λ at. IsCountedTo b asked at sums) (sym come) had

-- where a search stands after a call
pub stands-after : {Reaches : List ℕ → StateID → Type 0} {matches : StateID → List ℕ} {m : Dictionary}
    {deterministic : Bool} {s : Search} {place : Position} {n : ℕ} (r : Shown) {sums start done : Steps}
    (after : Steps) → StandsAt Reaches matches m deterministic s place n sums
    → ShowsFirst Reaches matches m s (drop n (listing_of s)) r
    → KeepsBudget m deterministic s place r.place start done → AreNone start → Added done sums after
    → StandsAt Reaches matches m deterministic s r.place (if is_some r.found then n + 1 else n) after
stands-after {Reaches} {matches} {m} {s} {n} r {sums} after stands shows pays none added =
    let looked = added.looked in
    let zero_looked = none.looked in
    let scanned = added.scanned in
    let zero_scanned = none.scanned in
    record {
      left = subst (IsLeft Reaches matches m s r.place) (left-after (listing_of s) n r.found shows.0) shows.1;
      paid = pays.looks sums.looked.value after.looked.value stands.paid (omega arith);
      scanned = pays.scans sums.scanned.value after.scanned.value stands.scanned (omega arith);
      moved = let a = added.moved in let b = pays.moved in let c = none.moved in let d = stands.moved in omega arith;
    }

-- what a call showed is the next of the listing
pub found-after : (Reaches : List ℕ → StateID → Type 0) (matches : StateID → List ℕ) (m : Dictionary) (s : Search)
    (n : ℕ) (r : Shown) → ShowsFirst Reaches matches m s (drop n (listing_of s)) r
    → r.found ≡ slice_get (listing_of s) n
found-after Reaches matches m s n r shows = shows.0 ∙ slice_get-drop (listing_of s) n

-- the looks are within what one walk over the span may cost
pub paid-within : (Reaches : List ℕ → StateID → Type 0) (matches : StateID → List ℕ) (m : Dictionary)
    (deterministic : Bool) (s : Search) (place : Position) (left : List Occurrence) (looks : ℕ)
    → IsLeft Reaches matches m s place left → IsPlacePaid m deterministic s place looks
    → looks ≤ lookups_per_byte deterministic * (s.end - s.start)
paid-within Reaches matches m deterministic s (At sid from at index) left looks is paid =
    paid-to m deterministic s from at s.end looks (omega (arith, is.0.behind, is.0.ordered)) is.0.within paid
paid-within Reaches matches m deterministic s Over left looks is paid = paid

-- the scans are within what one walk over the span may cost
scanned-within : (Reaches : List ℕ → StateID → Type 0) (matches : StateID → List ℕ) (m : Dictionary) (s : Search)
    (place : Position) (left : List Occurrence) (scans : ℕ) → IsLeft Reaches matches m s place left
    → (scans ≤ 256 * ((come_to s place) - s.start)) → (scans ≤ 256 * (s.end - s.start))
scanned-within Reaches matches m s (At sid from at index) left scans is scanned = omega (arith, is.0.within, scanned)
scanned-within Reaches matches m s Over left scans is scanned = scanned

-- all that was done is within what one walk may cost
pub stands-work : {Reaches : List ℕ → StateID → Type 0} {matches : StateID → List ℕ} {m : Dictionary}
    {deterministic : Bool} {s : Search} {place : Position} {n : ℕ} {sums : Steps}
    → StandsAt Reaches matches m deterministic s place n sums → IsOverlappingWork deterministic s sums
stands-work {Reaches} {matches} {m} {deterministic} {s} {place} {n} {sums} stands =
    record {
      looked = paid-within Reaches matches m deterministic s place (drop n (listing_of s)) sums.looked.value stands.left
          stands.paid;
      scanned =
          scanned-within Reaches matches m s place (drop n (listing_of s)) sums.scanned.value stands.left
          stands.scanned;
      moved = stands.moved;
    }

-- all calls with one state cost at most what one walk may cost
pub came-work : (b : Built) (Reaches : Anchored → List ℕ → StateID → Type 0) (matches : StateID → List ℕ)
    (asked : Asked) (state : OverlappingState)
    → CameFrom b Reaches matches asked state → IsOverlappingCost b asked state.sums
came-work b Reaches matches asked state came =
    ⊎_elim
    (λ (fresh : IsFreshState state).
    record {
      looked = let none = fresh.sums.looked in omega arith;
      scanned = let none = fresh.sums.scanned in
          omega arith;
      moved = fresh.sums.moved;
    })
    (λ (stands : (place : Position) × (state.place ≡ Some place)
    × StandsAt (Reaches asked.anchored) matches b.dictionary b.deterministic (searched b asked) place state.shown.value
    state.sums × IsCountedTo b asked (stands_at_least (searched b asked) place) state.sums).
    stands-work stands.2)
    came

-- what is left yields its first, if it has one
pub yields-next : (L : List Occurrence) (n : ℕ) (r : Option Occurrence) → r ≡ slice_get (drop n L) 0
    → MatchOption r ((drop n L ≡ []) × (drop (if is_some r then n + 1 else n) L ≡ []))
    (λ o. drop n L ≡ o ∷ drop (if is_some r then n + 1 else n) L)
yields-next L n None e = (slice_get-empty (drop n L) e, slice_get-empty (drop n L) e)
yields-next L n (Some o) e = slice_get-first (drop n L) o e ∙ ap (λ xs. o ∷ xs) (drop-one_more L n)

-- ---- a state and its clone

-- counts of equal value are equal
pub count-same : (a b : Count) → a.value ≡ b.value → a ≡ b
count-same a b e = ap (λ n. let r : Count = record { times = a.times; value = n } in r) e

-- steps with equal counts are equal
pub steps-same : (a b : Steps) → a.looked.value ≡ b.looked.value → a.scanned.value ≡ b.scanned.value
    → a.moved.value ≡ b.moved.value → a ≡ b
steps-same a b looked scanned moved =
    ap (λ n. let r : Steps = record { looked = n; scanned = a.scanned; moved = a.moved } in r)
    (count-same a.looked b.looked looked)
    ∙ ap (λ n. let r : Steps = record { looked = b.looked; scanned = n; moved = a.moved } in r)
    (count-same a.scanned b.scanned scanned)
    ∙ ap (λ n. let r : Steps = record { looked = b.looked; scanned = b.scanned; moved = n } in r)
    (count-same a.moved b.moved moved)
