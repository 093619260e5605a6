-- Overlapping search by candidates: what is left where the walk is back at the start, and where a prefilter points.
use Rattle.std.proofs.Common.{◌≡◌, ℕ, ◌+◌, ◌-◌, ◌*◌, ◌<◌, ◌≤◌, Bool, false, true, List, [], ◌∷◌, ◌++◌, length, map, Option, Some, None, ⊎_elim, slice_range, inl, inr, sym, ap, subst, refl, ◌∙◌, arith}
use Rattle.std.specs.List.{Contains, filter}
use Rattle.std.specs.Option.{is_some}
use denote.Ref.{Bor}
use Rattle.std.proofs.lemmas.Bool.{false≢true, cases_lt}
use Rattle.std.proofs.lemmas.Option.{same_Some, none-some}
use Rattle.ac_input.specs.declared.search.Anchored.{Anchored}
use Rattle.ac_input.specs.declared.search.Anchored.TheVariants.{No}
use Rattle.ac_input.specs.declared.search.MatchKind.{MatchKind}
use Rattle.ac_input.specs.declared.search.MatchKind.TheVariants.{Standard}
use Rattle.ac_input.specs.declared.search.candidate.Candidate.{Candidate}
use Rattle.ac_input.specs.declared.search.candidate.Candidate.TheVariants as candidates
use Rattle.ac_input.specs.Number.{StateID}
use Rattle.ac_input.specs.declared.steps.Steps.{Steps}
use Rattle.ac_input.specs.Candidate.{Filter, IsCandidate, IsScan, IsScanned, IsNearFound, IsFirstOf, scan_len, start_of}
use Rattle.ac_input.specs.Computed.{listing_of}
use Rattle.ac_input.specs.Input.{Asked, is_anchored, search_of}
use Rattle.ac_input.specs.Laws.LiveLaws.{shifted}
use Rattle.ac_input.specs.Dictionary.{Dictionary, IsLive, whole}
use Rattle.ac_input.specs.Occurrence.{Search, Occurrence, Occurs, starting_at}
use Rattle.ac_input.specs.Tells.{Tells, ending}
use Rattle.ac_input.proofs.lemmas.ContainsLemmas.{Contains-head, Contains-nil}
use Rattle.ac_input.proofs.lemmas.ListingLemmas.{ListsAll-unique, listing_of-lists}
use Rattle.ac_input.proofs.lemmas.LiveLemmas.{entered-begins}
use Rattle.ac_input.proofs.lemmas.ShiftLemmas.{back_by}
use Rattle.ac_input.proofs.lemmas.SpanLemmas.{occurs-in_whole_of_span}
use Rattle.ac_input.proofs.lemmas.StateLemmas.{standard-entered}
use Rattle.ac_automaton.specs.Automaton.{Built}
use Rattle.ac_automaton.specs.InMemory.Find.{IsUsable, MayGoOnFrom}
use Rattle.ac_automaton.specs.declared.in_memory.overlapping.Position.{Position}
use Rattle.ac_automaton.specs.declared.in_memory.overlapping.Position.TheVariants.{At, Over}
use Rattle.ac_automaton.specs.declared.in_memory.find.cursor.End.{End}
use Rattle.ac_automaton.specs.declared.in_memory.find.cursor.End.TheVariants.{Found, Idle}
use Rattle.ac_automaton.specs.declared.in_memory.overlapping.Shown.{Shown}
use Rattle.ac_automaton.specs.InMemory.Overlapping.{ending_from, occurrences_from, ShowsFirst, ReadsOn, IsPast, IsPaidTo, IsPaidAt, IsPaidBy, IsSkipCost, KeepsBudget, OnlyLooked, come_to, read_on_to}
use Rattle.ac_automaton.specs.InMemory.Overlapping.OverlappingSearch.{BeginsAt, IsScanFor}
use Rattle.ac_automaton.specs.InMemory.Find.Cursor.{read_to, counts}
use Rattle.ac_automaton.proofs.in_memory.find.FindLemmas.{occurs_before, occurs_behind, match-goes_on}
use Rattle.ac_automaton.proofs.lemmas.CursorLemmas.{slice_range-split}
use Rattle.ac_automaton.proofs.in_memory.overlapping.OverlappingLemmas.{IsPlace, ListsAll-like, ending_from-lists, ending_from-start, ending_from-split, read_to-length, told-lists}
use Rattle.ac_automaton.proofs.in_memory.overlapping.OverlappingStateLemmas.{read_to-start}
use Rattle.ac_automaton.proofs.in_memory.overlapping.OverlappingReadLemmas.{paid-start, paid-to, shows-none, occurrences_from-empty}

-- ---- where the walk is back at the start

-- An occurrence in a longer text that reaches the end of the first text begins no earlier than the first text's live
-- part.
live-no_before : (m : Dictionary) (text more : List ℕ) (from : ℕ) {o : Occurrence} → m.kind ≡ Standard
    → IsLive m false text (Some from) → Occurs (whole m (text ++ more) false) o → o.start ≤ length text
    → length text ≤ o.end → from ≤ o.start
live-no_before m text more from {o} standard live h inside past =
    live.1 o.start (record {
      within = inside;
      begins = entered-begins text more h (standard-entered m standard h.same.1) inside past;
      anchor = λ a. absurd (false≢true a);
      no_later = inr (inl standard);
    })

-- where no byte read so far is live, an occurrence that ends here or later also begins here or later
back-begins : {m : Dictionary} {s : Search} {at : ℕ} {o : Occurrence} → IsPlace m No s at
    → IsLive m false (read_to s at) (Some (length (read_to s at))) → Occurs s o → at ≤ o.end → at ≤ o.start
back-begins {m} {s} {at} {o} is live h past =
    ⊎_elim
    (λ (later : at < o.start). let r : at ≤ o.start = omega arith in r)
    (λ (le : o.start ≤ at).
    let g = is.from in
    let l = is.to in
    let w = h.within in
    let text = read_to s at in
    let rest = slice_range s.haystack at s.end in
    let long : length text ≡ at - s.start = read_to-length s at g l is.inside in
    let whole_text : read_to s s.end ≡ text ++ rest = slice_range-split s.haystack s.start at s.end g l in
    let there = occurs-in_whole_of_span m is.by (omega arith) (omega arith) is.inside h w.2 in
    let unanchored : Occurs (whole m (read_to s s.end) false) (back_by s.start o) =
    subst (λ b. Occurs (whole m (read_to s s.end) b) (back_by s.start o)) is.anchor there.0 in
    let occurs : Occurs (whole m (text ++ rest) false) (back_by s.start o) =
    subst (λ t. Occurs (whole m t false) (back_by s.start o)) whole_text unanchored in
    let le2 = live-no_before m text rest (length text) is.standard live occurs (omega arith)
    (omega arith) in
    omega arith)
    (cases_lt at o.start)

-- Where no byte read so far is live, the occurrences that end here or later are those of the search that starts here.
pub ending_from-back : {m : Dictionary} {s : Search} {at : ℕ} → IsPlace m No s at
    → IsLive m false (read_to s at) (Some (length (read_to s at))) → ending_from s at ≡ listing_of (starting_at s at)
ending_from-back {s} {at} is live =
    let free : s.anchored ≡ false = is.anchor in
    let g = is.from in
    ListsAll-unique (ending_from-lists s at is.inside)
    (ListsAll-like (Occurs (starting_at s at)) (λ o. Occurs s o × (at ≤ o.end)) (listing_of (starting_at s at))
    (λ o. (
      λ h. (occurs_before s at o free g h, let w = h.within in omega arith),
      λ h. occurs_behind s at o free (back-begins is live h.0 h.1) h.0,
    ))
    (listing_of-lists is.inside))

-- a list that contains nothing is empty
nil-none : {X : Type 0} (xs : List X) → ((x : X) → Contains xs x → ⊥) → xs ≡ []
nil-none [] h = refl
nil-none (x ∷ xs) h = absurd (h x (Contains-head xs))

-- where a state shows no occurrence in an unanchored search, its list is empty
pub occurrences_from-nil : (m : Dictionary) (s : Search) (at : ℕ) (ns : List ℕ) → s.anchored ≡ false
    → occurrences_from m s at ns 0 ≡ [] → ns ≡ []
occurrences_from-nil m s at [] free none = refl
occurrences_from-nil m s at (n ∷ ns) free none =
    let kept : filter (counts m s.anchored (at - s.start)) (n ∷ ns) ≡ filter (counts m false (at - s.start)) (n ∷ ns) =
    ap (λ b. filter (counts m b (at - s.start)) (n ∷ ns)) free in
    let told : map (shifted s.start) (map (ending m (read_to s at)) (filter (counts m false (at - s.start)) (n ∷ ns)))
    ≡ [] = sym (ap (λ xs. map (shifted s.start) (map (ending m (read_to s at)) xs)) kept) ∙ none in
    cc

-- Where a state of an unanchored walk shows no occurrence, nothing matches at a start.
pub start-empty : (m : Dictionary) (s : Search) (at : ℕ) (here ns : List ℕ) → IsPlace m No s at
    → Tells m No (read_to s at) here → occurrences_from m s at here 0 ≡ [] → Tells m No [] ns → ns ≡ []
start-empty m s at here ns is tells none begins =
    let t = starting_at s at in
    let free : s.anchored ≡ false = is.anchor in
    let g = is.from in
    let place : IsPlace m No t at =
    record {
      by = is.by;
      anchor = is.anchor;
      standard = is.standard;
      from = omega arith;
      to = is.to;
      inside = is.inside;
    } in
    let ends = told-lists here is tells in
    let all = told-lists ns place (subst (λ text. Tells m No text ns) (sym (read_to-start t)) begins) in
    let nothing : (o : Occurrence) → Contains (occurrences_from m t at ns 0) o → ⊥ = λ o c.
    let h = (all.1 o).0 c in
    Contains-nil (subst (λ os. Contains os o) none ((ends.1 o).1 (occurs_before s at o free g h.0, h.1))) in
    occurrences_from-nil m t at ns free (nil-none (occurrences_from m t at ns 0) nothing)

-- ---- where reading on ends

-- where nothing is left, the search is over
pub over-reads : (Reaches : List ℕ → StateID → Type 0) (matches : StateID → List ℕ) (m : Dictionary) (s : Search)
    (at : ℕ) (left : List Occurrence) (r : Shown) → left ≡ [] → r.found ≡ None → r.place ≡ Over
    → ReadsOn Reaches matches m s at left (Found r)
over-reads Reaches matches m s at left r none found place =
    (shows-none Reaches matches m s left r none found place, subst (IsPast at) (sym place) tt)

-- ---- where a prefilter points

-- where nothing begins before a place, the listing from that place is the whole listing
listing-skip : {s : Search} {at : ℕ} → s.anchored ≡ false → s.end ≤ length s.haystack → MayGoOnFrom s at
    → listing_of s ≡ listing_of (starting_at s at)
listing-skip {s} {at} free inside here =
    ListsAll-unique (listing_of-lists inside)
    (ListsAll-like (Occurs (starting_at s at)) (Occurs s) (listing_of (starting_at s at))
    (λ o. (λ h. occurs_before s at o free here.behind h, λ h. occurs_behind s at o free (here.none o h) h))
    (listing_of-lists inside))

-- where nothing occurs, the listing is empty
pub listing-none : (s : Search) → s.end ≤ length s.haystack → ((o : Occurrence) → Occurs s o → ⊥) → listing_of s ≡ []
listing-none s inside none =
    ListsAll-unique (listing_of-lists inside) (tt, λ o. (λ c. absurd (Contains-nil c), λ h. absurd (none o h)))

-- the search that a prefilter is called for is the rest of the automaton's search
pub ahead-same : (m n : Dictionary) (asked : Asked) (haystack : List ℕ) (at end : ℕ) → n ≡ m → haystack ≡ asked.haystack
    → end ≡ asked.span.end → asked.anchored ≡ No
    → search_of n No haystack (record { start = at; end = end })
    ≡ starting_at (search_of m asked.anchored asked.haystack asked.span) at
ahead-same m n asked haystack at end made hays ends free =
    ap (λ k. search_of k No haystack (record { start = at; end = end })) made
    ∙ ap (λ h. search_of m No h (record { start = at; end = end })) hays
    ∙ ap (λ k. search_of m No asked.haystack (record { start = at; end = k })) ends
    ∙ ap (λ b. let r : Search =
    record {
      patterns = m.patterns;
      pairing = m.pairing;
      haystack = asked.haystack;
      start = at;
      end = asked.span.end;
      anchored = b;
    } in r) (sym (ap is_anchored free))

-- without a candidate there is no occurrence
candidate-none : (kind : MatchKind) (s : Search) (c : Candidate) → IsCandidate kind s c → start_of c ≡ None
    → (o : Occurrence) → ¬ Occurs s o
candidate-none kind s candidates.None h e = h
candidate-none kind s (candidates.Match b) h e = cc
candidate-none kind s (candidates.PossibleStartOfMatch at) h e = cc

-- nothing begins before a candidate
pub candidate-before : (kind : MatchKind) (s : Search) (c : Candidate) (at : ℕ) → IsCandidate kind s c
    → start_of c ≡ Some at → MayGoOnFrom s at
candidate-before kind s candidates.None at h e = cc
candidate-before kind s (candidates.Match b) at h e =
    subst (MayGoOnFrom s) (same_Some b.start at e) (match-goes_on kind s b h)
candidate-before kind s (candidates.PossibleStartOfMatch place) at h e =
    subst (MayGoOnFrom s) (same_Some place at e) (record { behind = h.0; within = h.1; none = h.2 })

-- an occurrence may begin at a candidate, and at no place if there is no candidate
pub candidate-begins : (kind : MatchKind) (s : Search) (c : Candidate) (r : Option ℕ) → IsCandidate kind s c
    → r ≡ start_of c → BeginsAt s r
candidate-begins kind s c None h e = candidate-none kind s c h (sym e)
candidate-begins kind s c (Some at) h e = candidate-before kind s c at h (sym e)

-- the places that a scan covers lie in the span
scan-within : {bytes : List ℕ} {s : Search} {places : ℕ} {c : Candidate} → s.start ≤ s.end → IsScan bytes s places c
    → s.start + places ≤ s.end
scan-within {bytes} {s} {places} ordered scan = by scan.found scan.first scan.exact
  where
    by : (found : Option ℕ) → IsFirstOf bytes s found → places ≡ scan_len s found → s.start + places ≤ s.end
    by None first exact = omega arith
    by (Some place) first exact = let lt = first.1 in let le = first.0 in omega arith

-- the last place that a scan covers is at most 254 after its candidate
scan-near : {bytes : List ℕ} {s : Search} {places : ℕ} {c : Candidate} (at : ℕ) → IsScan bytes s places c
    → start_of c ≡ Some at → s.start + places ≤ at + 255
scan-near {bytes} {s} {places} {c} at scan e = by scan.found scan.first scan.exact scan.near
  where
    by : (found : Option ℕ) → IsFirstOf bytes s found → places ≡ scan_len s found → IsNearFound found c
        → s.start + places ≤ at + 255
    by None first exact near = absurd (none-some at (sym (ap start_of near) ∙ e))
    by (Some place) first exact (there, is, le, close) =
        let same : there ≡ at = same_Some there at (sym (ap start_of is) ∙ e) in
        let g = first.0 in
        omega arith

-- the places that are counted as scanned lie in the span
pub scanned-in_span : (needles : List ℕ) (s : Search) (places : ℕ) (c : Candidate) → s.start ≤ s.end
    → IsScanned needles s places c → s.start + places ≤ s.end
scanned-in_span [] s places c ordered none = omega arith
scanned-in_span (b ∷ bs) s places c ordered scan = scan-within ordered scan

-- the last place that is counted as scanned is at most 254 after the candidate
pub scanned-near : (needles : List ℕ) {s : Search} (places : ℕ) (c : Candidate) {at : ℕ}
    → IsScanned needles s places c
    → MayGoOnFrom s at → start_of c ≡ Some at → s.start + places ≤ at + 255
scanned-near [] places c none here e = let g = here.behind in omega arith
scanned-near (b ∷ bs) places c {at} scan here e = scan-near at scan e

-- ---- what is paid

-- looks that are paid for up to a place are paid for up to any later place
paid-further : (deterministic : Bool) (s : Search) (at to looks : ℕ) → at ≤ to → IsPaidTo deterministic s at looks
    → IsPaidTo deterministic s to looks
paid-further true s at to looks le h = omega arith
paid-further false s at to looks le h = omega arith

-- a search that stands after a place has come at least that far
come-behind : (s : Search) (at : ℕ) (place : Position) → at ≤ s.end → IsPast at place → at ≤ come_to s place
come-behind s at (At sid from place index) le h = omega arith
come-behind s at Over le h = le

-- ---- by candidates

-- a search that stands after a place stands after an earlier one
behind-earlier : (at from : ℕ) (place : Position) → at ≤ from → IsPast from place → IsPast at place
behind-earlier at from (At sid start to index) le h = omega arith
behind-earlier at from Over le h = h

-- Reading on from a place is reading on from an earlier one, where the same occurrences are left.
pub reads_on-earlier : (Reaches : List ℕ → StateID → Type 0) (matches : StateID → List ℕ) (m : Dictionary) (s : Search)
    (at from : ℕ) (one other : List Occurrence) (reading : End Shown) → at ≤ from → other ≡ one
    → ReadsOn Reaches matches m s from other reading → ReadsOn Reaches matches m s at one reading
reads_on-earlier Reaches matches m s at from one other (Found shown) le same h =
    (subst (λ left. ShowsFirst Reaches matches m s left shown) same h.0, behind-earlier at from shown.place le h.1)
reads_on-earlier Reaches matches m s at from one other (Idle to) le same h =
    (omega (arith, h.0), h.1, sym same ∙ h.2, h.3)

-- the bound on the places scanned for a candidate, where the search shows something after the candidate
scans-shown : (s : Search) (at from places : ℕ) (place : Position) → at ≤ from → at + places ≤ s.end
    → at + places ≤ from + 255 → IsPast from place → places ≤ 256 * (come_to s place - at)
scans-shown s at from places (At sid start to index) le within near h = omega arith
scans-shown s at from places Over le within near h = omega arith

-- The places that were scanned for a candidate are paid for by the bytes up to where reading on from there ends.
scans-paid : (Reaches : List ℕ → StateID → Type 0) (matches : StateID → List ℕ) (m : Dictionary) (s : Search)
    (at from places : ℕ) (left : List Occurrence) (reading : End Shown) → at ≤ from → at + places ≤ s.end
    → at + places ≤ from + 255 → ReadsOn Reaches matches m s from left reading
    → places ≤ 256 * (read_on_to s reading - at)
scans-paid Reaches matches m s at from places left (Found shown) le within near h =
    scans-shown s at from places shown.place le within near h.1
scans-paid Reaches matches m s at from places left (Idle to) le within near h = let lt = h.0 in omega arith

-- The cost of a candidate's scan and of the walk from there is within that of a search by candidates.
pub candidate-read : (Reaches : List ℕ → StateID → Type 0) (matches : StateID → List ℕ) (m : Dictionary)
    (deterministic : Bool) (s : Search) {at from : ℕ} (left : List Occurrence) (reading : End Shown) {x y z : Steps}
    → s.start ≤ at → s.end ≤ length s.haystack → MayGoOnFrom (starting_at s at) from
    → IsScanFor at s.end (Some from) x y
    → ReadsOn Reaches matches m s from left reading
    → ((looks more : ℕ) → IsPaidAt m deterministic s from from looks → looks + z.looked.value ≡ more + y.looked.value
    → IsPaidBy m deterministic s reading more)
    → OnlyLooked y z → IsSkipCost m deterministic s at reading x z
candidate-read Reaches matches m deterministic s {at} {from} left reading {x} {y} g fits before scan reads pays only =
    let le = before.behind in
    let inside = before.within in
    let looked = scan.looked in
    let within = scan.within in
    let near = scan.near from refl in
    let moved = scan.moved in
    let rose = only.rose in
    let same_scans = only.scanned in
    let same_moved = only.moved in
    record {
      rose = omega arith;
      looks = λ looks more paid e. pays looks more
          (paid-start m deterministic s from looks (omega arith) inside fits
          (paid-further deterministic s at from looks le paid)) (omega arith);
      scans = let bound = scans-paid Reaches matches m s at from (y.scanned.value - x.scanned.value) left reading le
          (omega arith) (omega arith) reads in omega arith;
      moved = omega arith;
    }

-- A search by candidates has come from one place to another: the listing from either place is the same, and its cost is
-- paid for.
pub record HasSkippedTo (deterministic : Bool) (s : Search) (at place : ℕ) (before after : Steps) : Type 0 where
  pub behind : at ≤ place
  pub within : place ≤ s.end
  pub same : listing_of (starting_at s at) ≡ listing_of (starting_at s place)
  pub rose : before.looked.value ≤ after.looked.value
  pub looks : (looks more : ℕ) → IsPaidTo deterministic s at looks
      → looks + after.looked.value ≡ more + before.looked.value → IsPaidTo deterministic s place more
  pub scans : after.scanned.value ≤ before.scanned.value + 256 * (place - at)
  pub moved : after.moved.value ≡ before.moved.value

-- at first the search stands at the place where it began
pub searched_on-first : (deterministic : Bool) (s : Search) (at : ℕ) (x : Steps) → at ≤ s.end
    → HasSkippedTo deterministic s at at x x
searched_on-first deterministic s at x le = record {
  behind = omega arith;
  within = le;
  same = refl;
  rose = omega arith;
  looks = λ looks more paid e. let one : looks ≡ more = omega arith in subst (IsPaidTo deterministic s at) one paid;
  scans = omega arith;
  moved = refl;
}

-- A further walk that ends back at the start takes the search on to that place.
pub searched_on-further : (Reaches : List ℕ → StateID → Type 0) (matches : StateID → List ℕ) {m : Dictionary}
    {deterministic : Bool} {s : Search} {at place : ℕ} (to : ℕ) {x y z : Steps}
    → HasSkippedTo deterministic s at place x y
    → ReadsOn Reaches matches m s place (listing_of (starting_at s place)) (Idle to)
    → IsSkipCost m deterministic s place (Idle to) y z → HasSkippedTo deterministic s at to x z
searched_on-further Reaches matches to {x} {y} searched_on reads cost =
    let le = searched_on.behind in
    let lt = reads.0 in
    let one = searched_on.rose in
    let two = cost.rose in
    record {
      behind = omega arith;
      within = reads.1;
      same = searched_on.same ∙ reads.2;
      rose = omega arith;
      looks = λ looks more paid e.
          let between : ℕ = looks + y.looked.value - x.looked.value in
          cost.looks between more (searched_on.looks looks between paid (omega arith)) (omega arith);
      scans = omega (arith, searched_on.scans, cost.scans);
      moved = cost.moved ∙ searched_on.moved;
    }

-- what the last walk shows is what the search shows, and its total cost is paid for
pub searched_on-shows : (Reaches : List ℕ → StateID → Type 0) (matches : StateID → List ℕ) {m : Dictionary}
    {deterministic : Bool} {s : Search} {at place : ℕ} (shown : Shown) {x y z : Steps}
    → HasSkippedTo deterministic s at place x y
    → ReadsOn Reaches matches m s place (listing_of (starting_at s place)) (Found shown)
    → IsSkipCost m deterministic s place (Found shown) y z → IsSkipCost m deterministic s at (Found shown) x z
searched_on-shows Reaches matches {s} {place} shown {x} {y} searched_on reads cost =
    let le = searched_on.behind in
    let come = come-behind s place shown.place searched_on.within reads.1 in
    let one = searched_on.rose in
    let two = cost.rose in
    record {
      rose = omega arith;
      looks = λ looks more paid e.
          let between : ℕ = looks + y.looked.value - x.looked.value in
          cost.looks between more (searched_on.looks looks between paid (omega arith)) (omega arith);
      scans = omega (arith, searched_on.scans, cost.scans);
      moved = cost.moved ∙ searched_on.moved;
    }

-- ---- what a call pays

-- a call that reads on by one walk stays within the budget
pub pays-walk : (m : Dictionary) (deterministic : Bool) (s : Search) (sid : StateID) (from at : ℕ) (r : Shown)
    (x y : Steps)
    → at ≤ s.end → IsPast at r.place
    → ((looks more : ℕ) → IsPaidAt m deterministic s from at looks → looks + y.looked.value ≡ more + x.looked.value
    → IsPaidBy m deterministic s (Found r) more)
    → OnlyLooked x y → KeepsBudget m deterministic s (At sid from at 0) r.place x y
pays-walk m deterministic s sid from at r x y le behind pays only =
    let come = come-behind s at r.place le behind in
    let scanned = only.scanned in
    record {
      looks = pays;
      scans = λ scans more h e. omega arith;
      moved = only.moved;
    }

-- a call that goes by candidates at once, having read nothing, stays within the budget
pub pays-candidates : {m : Dictionary} {deterministic : Bool} {s : Search} (sid : StateID) (from : ℕ) {at : ℕ}
    (r : Shown) {x y : Steps} → s.start ≤ at → at ≤ s.end → IsPast at r.place
    → IsSkipCost m deterministic s at (Found r) x y → KeepsBudget m deterministic s (At sid from at 0) r.place x y
pays-candidates {m} {deterministic} {s} sid from {at} r g le behind cost =
    let come = come-behind s at r.place le behind in
    record {
      looks = λ looks more paid e. cost.looks looks more
          (paid-to m deterministic s from at at looks g (omega arith) paid) e;
      scans = λ scans more h e. let rest = cost.scans in omega arith;
      moved = cost.moved;
    }

-- A call that walks back to the start and goes by candidates from there stays within the budget.
pub pays-both : {m : Dictionary} {deterministic : Bool} {s : Search} (sid : StateID) (from at : ℕ) {to : ℕ}
    (r : Shown) {x y z : Steps} → s.start ≤ at → at < to → to ≤ s.end → IsPast to r.place
    → ((looks more : ℕ) → IsPaidAt m deterministic s from at looks → looks + y.looked.value ≡ more + x.looked.value
    → IsPaidBy m deterministic s (Idle to) more)
    → OnlyLooked x y → IsSkipCost m deterministic s to (Found r) y z
    → KeepsBudget m deterministic s (At sid from at 0) r.place x z
pays-both {s} sid from at {to} r {x} {y} g lt le behind pays only cost =
    let come = come-behind s to r.place le behind in
    let one = only.rose in
    let two = cost.rose in
    let scanned = only.scanned in
    record {
      looks = λ looks more paid e.
          let between : ℕ = looks + y.looked.value - x.looked.value in
          cost.looks between more (pays looks between paid (omega arith)) (omega arith);
      scans = λ scans more h e. let rest = cost.scans in omega arith;
      moved = cost.moved ∙ only.moved;
    }

-- ---- what is left at the start

-- Where nothing was read and nothing matches at the start, the occurrences that end later are all those from there on.
ending_from-fresh : {m : Dictionary} (s : Search) {at : ℕ} (ns : List ℕ) → IsPlace m No (starting_at s at) at
    → Tells m No [] ns → ns ≡ [] → ending_from (starting_at s at) (at + 1) ≡ listing_of (starting_at s at)
ending_from-fresh {m} s {at} ns is tells none =
    let t = starting_at s at in
    let here : Tells m No (read_to t at) ns = subst (λ text. Tells m No text ns) (sym (read_to-start t)) tells in
    sym (ending_from-split ns is here
    ∙ ap (λ xs. xs ++ ending_from t (at + 1)) (occurrences_from-empty m t at ns none))
    ∙ ending_from-start t is.inside

-- where nothing begins before a place and nothing matches at the start, the occurrences left are those that end after
-- that place
pub listing-begins : (m : Dictionary) (asked : Asked) (at from : ℕ) (ns : List ℕ)
    → m.kind ≡ Standard → asked.anchored ≡ No → asked.span.end ≤ length asked.haystack
    → MayGoOnFrom (starting_at (search_of m asked.anchored asked.haystack asked.span) at) from
    → Tells m asked.anchored [] ns → ns ≡ []
    → ending_from (starting_at (search_of m asked.anchored asked.haystack asked.span) from) (from + 1)
    ≡ listing_of (starting_at (search_of m asked.anchored asked.haystack asked.span) at)
listing-begins m asked at from ns standard unanchored inside before tells none =
    let s = search_of m asked.anchored asked.haystack asked.span in
    let free : s.anchored ≡ false = ap is_anchored unanchored in
    let place : IsPlace m No (starting_at s from)
    from = record {
      by = (refl, refl);
      anchor = free;
      standard = standard;
      from = omega arith;
      to = before.within;
      inside = inside;
    } in
    ending_from-fresh s ns place (subst (λ a. Tells m a [] ns) unanchored tells) none
    ∙ sym (listing-skip free inside before)

-- where a prefilter is used, the search isn't anchored and nothing matches at the start
pub usable-some : (b : Built) (matches : StateID → List ℕ) (anchored : Anchored) (start : StateID)
    (prefilter : Option (Bor Filter)) → IsUsable b matches anchored start prefilter → is_some prefilter ≡ true
    → (anchored ≡ No) × (matches start ≡ [])
usable-some b matches anchored start None usable some = absurd (false≢true some)
usable-some b matches anchored start (Some p) usable some = (usable.1, usable.2)
