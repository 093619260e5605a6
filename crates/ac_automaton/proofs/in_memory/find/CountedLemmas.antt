-- Each byte that a search passes is counted: by a walk, by a prefilter's scan, and by one after the other.
use Rattle.std.proofs.Common.{◌≡◌, ◌≢◌, ℕ, ◌+◌, ◌-◌, ◌≤◌, Bool, true, false, List, [], ◌∷◌, Option, Some, None, IfSome, unwrap_or, if◌then◌else◌, refl, sym, ap, ◌∙◌, subst, arith}
use Rattle.std.proofs.lemmas.Option.{none-some, same_Some}
use denote.Ref.{Bor}
use Rattle.ac_input.specs.declared.search.Anchored.{Anchored}
use Rattle.ac_input.specs.declared.search.Anchored.TheVariants.{No}
use Rattle.ac_input.specs.declared.search.MatchKind.{MatchKind}
use Rattle.ac_input.specs.declared.search.candidate.Candidate.{Candidate}
use Rattle.ac_input.specs.declared.search.candidate.Candidate.TheVariants as candidates
use Rattle.ac_input.specs.declared.steps.Steps.{Steps}
use Rattle.ac_input.specs.Candidate.{Filter, IsFirstOf, IsNearFound, IsScanned, scan_len, start_of}
use Rattle.ac_input.specs.Input.{Asked}
use Rattle.ac_input.specs.Occurrence.{Occurrence, Search, starting_at}
use Rattle.ac_input.specs.Steps.{Added, AreNone}
use Rattle.ac_input.specs.Work.{CountsBytes, HasCounted, bytes_counted, come_at_least}
use Rattle.ac_automaton.specs.Automaton.{Built, prefilter_for, searched}
use Rattle.ac_automaton.specs.InMemory.Find.{IsWalkWork, come_by}
use Rattle.ac_automaton.specs.InMemory.Overlapping.{read_at_least, stands_at_least}
use Rattle.ac_automaton.specs.InMemory.Overlapping.OverlappingSearch.{ScanCounts, SkipCounts}
use Rattle.ac_automaton.specs.declared.in_memory.overlapping.Position.TheVariants.{Over}
use Rattle.ac_automaton.specs.declared.in_memory.overlapping.Shown.{Shown}
use Rattle.ac_automaton.specs.declared.in_memory.find.cursor.End.{End}
use Rattle.ac_automaton.specs.declared.in_memory.find.cursor.End.TheVariants.{Found, Idle}

-- ---- counts one after the other

-- passing no byte needs no count
pub counted-none : (filter : Option Filter) (n : ℕ) (x : Steps) → n ≡ 0 → HasCounted filter n x x
counted-none None n x none = record { least = λ counts. omega arith }
counted-none (Some f) n x none = record { least = λ counts. omega arith }

-- the counts of two steps in turn add up
pub counted-join : (filter : Option Filter) (n k all : ℕ) (x y z : Steps) → all ≤ n + k → HasCounted filter n x y
    → HasCounted filter k y z → HasCounted filter all x z
counted-join None n k all x y z le one two =
    record { least = λ counts. let a = one.least counts in let b = two.least counts in omega arith }
counted-join (Some f) n k all x y z le one two =
    record { least = λ counts. let a = one.least counts in let b = two.least counts in omega arith }

-- A search has come no further than the place where it continued, plus what it passed from there.
pub come-further : (s : Search) (at : ℕ) (end : End (Option Occurrence))
    → come_by s end - s.start ≤ (at - s.start) + (come_by (starting_at s at) end - at)
come-further s at (Found (Some o)) = omega arith
come-further s at (Found None) = by s.anchored
  where
    by : (anchored : Bool) → (if anchored then s.start else s.end) - s.start
        ≤ (at - s.start) + ((if anchored then at else s.end) - at)
    by true = omega arith
    by false = omega arith
come-further s at (Idle to) = omega arith

-- where there is no match, the search has come no further than the end of the span
pub come-none : (s : Search) → come_at_least s None - s.start ≤ s.end - s.start
come-none s = by s.anchored
  where
    by : (anchored : Bool) → (if anchored then s.start else s.end) - s.start ≤ s.end - s.start
    by true = omega arith
    by false = omega arith

-- ---- walks

-- a walk scans nothing
pub walk-scans : (kind : MatchKind) (deterministic : Bool) (s : Search) (end : End (Option Occurrence)) (x y : Steps)
    → IsWalkWork kind deterministic s end x y → y.scanned.value ≡ x.scanned.value
walk-scans kind deterministic s (Found r) x y work = work.1
walk-scans kind deterministic s (Idle at) x y work = work.1

-- a walk counts each byte that it passes, whatever the prefilter
pub walk-counts : (filter : Option Filter) (n : ℕ) (x y : Steps) → y.scanned.value ≡ x.scanned.value
    → x.looked.value + n ≤ y.looked.value → HasCounted filter n x y
walk-counts None n x y same looks = record { least = λ counts. looks }
walk-counts (Some f) n x y same looks = record { least = λ counts. omega arith }

-- ---- scans

-- the prefilter of an unanchored search is the automaton's
own-prefilter : (b : Built) (anchored : Anchored) (f : Filter) → anchored ≡ No → b.prefilter ≡ Some f
    → prefilter_for b anchored ≡ Some f
own-prefilter b anchored f free own = ap (prefilter_for b) free ∙ own

-- a scan counts each place that it covers
pub scan-counts : (b : Built) (anchored : Anchored) (f : Filter) (n : ℕ) (x y : Steps) → anchored ≡ No
    → b.prefilter ≡ Some f → y.looked.value ≡ x.looked.value → (f.needles ≢ [] → x.scanned.value + n ≤ y.scanned.value)
    → HasCounted (prefilter_for b anchored) n x y
scan-counts b anchored f n x y free own same scans =
    subst (λ filter. HasCounted filter n x y) (sym (own-prefilter b anchored f free own)) by
  where
    by : HasCounted (Some f) n x y
    by = record { least = λ counts. let s = scans counts in omega arith }

-- a scan that finds no candidate covers the whole span
pub scan-covers_all : (needles : List ℕ) (s : Search) (places : ℕ) → needles ≢ []
    → IsScanned needles s places candidates.None → s.end - s.start ≤ places
scan-covers_all [] s places some scan = absurd (some refl)
scan-covers_all (byte ∷ bytes) s places some scan = by scan.found scan.exact scan.near
  where
    by : (found : Option ℕ) → places ≡ scan_len s found → IsNearFound found candidates.None → s.end - s.start ≤ places
    by None exact near = omega arith
    by (Some place) exact (there, is, le, close) =
        absurd (let e : candidates.None ≡ candidates.PossibleStartOfMatch there = is in cc)

-- a scan that finds a candidate covers all places before it
pub scan-covers_before : (needles : List ℕ) (s : Search) (places at : ℕ) → needles ≢ []
    → IsScanned needles s places (candidates.PossibleStartOfMatch at) → at - s.start ≤ places
scan-covers_before [] s places at some scan = absurd (some refl)
scan-covers_before (byte ∷ bytes) s places at some scan = by scan.found scan.first scan.exact scan.near
  where
    by : (found : Option ℕ) → IsFirstOf (byte ∷ bytes) s found → places ≡ scan_len s found
        → IsNearFound found (candidates.PossibleStartOfMatch at) → at - s.start ≤ places
    by None first exact near = absurd (let e : candidates.PossibleStartOfMatch at ≡ candidates.None = near in cc)
    by (Some place) first exact (there, is, le, close) =
        let e : candidates.PossibleStartOfMatch at ≡ candidates.PossibleStartOfMatch there = is in
        let same : at ≡ there = cc in
        let from = first.0 in
        omega arith

-- a scan for bytes returns no match
pub scan-no_match : (needles : List ℕ) (s : Search) (places : ℕ) (o : Occurrence) → needles ≢ []
    → ¬ IsScanned needles s places (candidates.Match o)
scan-no_match [] s places o some scan = some refl
scan-no_match (byte ∷ bytes) s places o some scan = by scan.found scan.near
  where
    by : (found : Option ℕ) → ¬ IsNearFound found (candidates.Match o)
    by None near = let e : candidates.Match o ≡ candidates.None = near in cc
    by (Some place) (there, is, le, close) = let e : candidates.Match o ≡ candidates.PossibleStartOfMatch there = is in
        cc

-- A scan covers all places before its candidate's start, or the whole span if there is no candidate.
pub scan-covers : (needles : List ℕ) (s : Search) (places : ℕ) (c : Candidate) → needles ≢ []
    → IsScanned needles s places c → unwrap_or (start_of c) s.end - s.start ≤ places
scan-covers needles s places candidates.None some scan = scan-covers_all needles s places some scan
scan-covers needles s places (candidates.Match o) some scan = absurd (scan-no_match needles s places o some scan)
scan-covers needles s places (candidates.PossibleStartOfMatch at) some scan =
    scan-covers_before needles s places at some scan

-- ---- sums

-- what is counted in fresh steps is counted in the steps to which they are added
pub counted-moved : (filter : Option Filter) (n : ℕ) (start done before after : Steps) → AreNone start
    → Added done before after → HasCounted filter n start done → HasCounted filter n before after
counted-moved None n start done before after none added had =
    record { least = λ counts. let a = had.least counts in omega (arith, none.looked, added.looked) }
counted-moved (Some f) n start done before after none added had =
    record {
      least = λ counts. let a = had.least counts in
          omega (arith, none.looked, none.scanned, added.looked, added.scanned);
    }

-- an earlier count and the count of fresh steps add up
pub sums-more : (filter : Option Filter) (n k all looks places looked scanned : ℕ) {start : Steps} (done : Steps)
    → all ≤ n + k
    → AreNone start → looked ≡ looks + done.looked.value → scanned ≡ places + done.scanned.value
    → n ≤ bytes_counted filter looks places → (CountsBytes filter → HasCounted filter k start done) → CountsBytes filter
    → all ≤ bytes_counted filter looked scanned
sums-more None n k all looks places looked scanned done le none more_looks more_places had more counts =
    let a = (more counts).least counts in
    omega (arith, none.looked)
sums-more (Some f) n k all looks places looked scanned done le none more_looks more_places had more counts =
    let a = (more counts).least counts in
    omega (arith, none.looked, none.scanned)

-- ---- overlapping search

-- where there is no candidate, all of the span is counted
pub skip-over : (b : Built) (asked : Asked) (at : ℕ) (prefilter : Option (Bor Filter)) (r : Shown) (x y : Steps)
    → asked.anchored ≡ No → asked.span.start ≤ asked.span.end → IfSome prefilter (λ p. b.prefilter ≡ Some p.now)
    → ScanCounts prefilter at asked.span.end None x y → y.looked.value ≡ x.looked.value → r.place ≡ Over
    → SkipCounts b asked at (Found r) x y
skip-over b asked at None r x y free ordered own scan same place = absurd (none-some at scan.0)
skip-over b asked at (Some p) r x y free ordered own scan same place =
    subst (λ here. HasCounted (prefilter_for b asked.anchored) (stands_at_least (searched b asked) here - at) x y)
    (sym place)
    (scan-counts b asked.anchored p.now (stands_at_least (searched b asked) Over - at) x y free own same
    (λ some. let covers = scan some in let come = come-none (searched b asked) in omega arith))

-- where there is a candidate, the walk from there counts the rest
pub skip-read : (b : Built) (asked : Asked) (at from : ℕ) (prefilter : Option (Bor Filter)) (reading : End Shown)
    (x y z : Steps)
    → asked.anchored ≡ No → IfSome prefilter (λ p. b.prefilter ≡ Some p.now)
    → ScanCounts prefilter at asked.span.end (Some from) x y → y.looked.value ≡ x.looked.value
    → z.scanned.value ≡ y.scanned.value
    → (y.looked.value + (read_at_least (searched b asked) reading - from) ≤ z.looked.value)
    → SkipCounts b asked at reading x z
skip-read b asked at from None reading x y z free own scan same scanned looks =
    let there : from ≡ at = same_Some from at scan.0 in
    let first = walk-counts (prefilter_for b asked.anchored) (read_at_least (searched b asked) reading - from) y z
    scanned looks in
    subst (λ before. HasCounted (prefilter_for b asked.anchored) (read_at_least (searched b asked) reading - at) before
    z) scan.1
    (subst (λ n. HasCounted (prefilter_for b asked.anchored) (read_at_least (searched b asked) reading - n) y z) there
    first)
skip-read b asked at from (Some p) reading x y z free own scan same scanned looks =
    counted-join (prefilter_for b asked.anchored) _ _ _ _ _ _ (omega arith)
    (scan-counts b asked.anchored p.now (from - at) x y free own same scan)
    (walk-counts (prefilter_for b asked.anchored) (read_at_least (searched b asked) reading - from) y z scanned looks)

-- Adding a call's fresh steps to the sums adds its count to the earlier count.
pub counted-added : (filter : Option Filter) (n k all : ℕ) (start done sums after : Steps) → all ≤ n + k → AreNone start
    → Added done sums after
    → (CountsBytes filter → n ≤ bytes_counted filter sums.looked.value sums.scanned.value)
    → HasCounted filter k start done
    → CountsBytes filter → all ≤ bytes_counted filter after.looked.value after.scanned.value
counted-added None n k all start done sums after le none added had more counts =
    let a = had counts in
    let b = more.least counts in
    omega (arith, none.looked, added.looked)
counted-added (Some f) n k all start done sums after le none added had more counts =
    let a = had counts in
    let b = more.least counts in
    omega (arith, none.looked, none.scanned, added.looked, added.scanned)
