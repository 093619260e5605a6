-- A search that goes on from a place before which nothing begins: its best match, and its work.
use Rattle.std.proofs.Common.{◌≡◌, ◌≢◌, ℕ, ◌+◌, ◌-◌, ◌*◌, ◌≤◌, Bool, true, false, Option, Some, None, ◌⊎◌, ⊎_elim, inr, sym, ap, subst, refl, ◌∙◌, arith}
use Rattle.std.proofs.lemmas.Bool.{false≢true}
use Rattle.std.proofs.lemmas.Option.{same_Some, none-some}
use Rattle.ac_input.specs.declared.search.MatchKind.{MatchKind}
use Rattle.ac_input.specs.declared.search.MatchKind.TheVariants.{Standard, LeftmostFirst, LeftmostLongest}
use Rattle.ac_input.specs.declared.search.candidate.Candidate.TheVariants as candidates
use Rattle.ac_input.specs.declared.steps.Steps.{Steps}
use Rattle.ac_input.specs.Occurrence.{Search, Occurrence, Occurs, starting_at}
use Rattle.ac_input.specs.Best.{IsBest, asked_kind}
use Rattle.ac_input.specs.Candidate.{IsCandidate}
use Rattle.ac_input.specs.Work.{lookups_per_byte, longest, over_at, IsFindWork}
use Rattle.ac_input.proofs.lemmas.LiveLemmas.{leftmost-no_later}
use Rattle.ac_input.proofs.lemmas.WalkLemmas.{occurs-whole}
use Rattle.ac_automaton.specs.InMemory.Find.{MayGoOnFrom, IsCandidateWork, IsWorkTo, IsSearchWork, EndSays, IsWalkWork}
use Rattle.ac_automaton.specs.declared.in_memory.find.cursor.End.TheVariants.{Found, Idle}
use Rattle.ac_automaton.specs.declared.in_memory.find.cursor.End.{End}

-- in an unanchored search, an occurrence of the search from a later place is one of the search
pub occurs_before : (s : Search) (at : ℕ) (o : Occurrence) → s.anchored ≡ false → s.start ≤ at
    → Occurs (starting_at s at) o → Occurs s o
occurs_before s at o free le h = occurs-whole le (λ t. absurd (false≢true (sym free ∙ t))) h

-- in an unanchored search, an occurrence that begins at a place or later is one of the search from there
pub occurs_behind : (s : Search) (at : ℕ) (o : Occurrence) → s.anchored ≡ false → at ≤ o.start → Occurs s o
    → Occurs (starting_at s at) o
occurs_behind s at o free le h =
    record { within = (le, h.within.1, h.within.2); same = h.same; anchor = λ t. absurd (false≢true (sym free ∙ t)) }

-- A search may go on from a second place, if it may go on from a first one, and from there to the second.
goes_on-further : {s : Search} {at from : ℕ} → s.anchored ≡ false → MayGoOnFrom s at
    → MayGoOnFrom (starting_at s at) from → MayGoOnFrom s from
goes_on-further {s} {at} free here there = record {
  behind = omega (arith, here.behind, there.behind);
  within = there.within;
  none = λ o h. there.none o (occurs_behind s at o free (here.none o h) h);
}

-- where nothing begins before a place, the best match from there on is the best of all
pub best-from : (kind : MatchKind) {s : Search} {at : ℕ} (r : Option Occurrence) → s.anchored ≡ false
    → MayGoOnFrom s at
    → IsBest kind (starting_at s at) r → IsBest kind s r
best-from kind {s} {at} None free here h = λ o occurs. h o (occurs_behind s at o free (here.none o occurs) occurs)
best-from kind {s} {at} (Some b) free here h = (
  occurs_before s at b free here.behind h.0,
  λ o occurs. h.1 o (occurs_behind s at o free (here.none o occurs) occurs),
)

-- the looks for two parts of a span are within those for the whole
looks_join : (deterministic : Bool) (a b c : ℕ) → a + b ≤ c
    → lookups_per_byte deterministic * a + lookups_per_byte deterministic * b ≤ lookups_per_byte deterministic * c
looks_join true a b c h = omega arith
looks_join false a b c h = omega arith

-- the work up to a place, and from there to a later one, is the work up to the later one
work_to-further : {deterministic : Bool} {s : Search} {at from : ℕ} {x y z : Steps} → s.start ≤ at → at ≤ from
    → IsWorkTo deterministic s at x y → IsWorkTo deterministic (starting_at s at) from y z
    → IsWorkTo deterministic s from x z
work_to-further {deterministic} {s} {at} {from} h k one two = record {
  looked = let join = looks_join deterministic (at - s.start) (from - at) (from - s.start) (omega arith) in
      omega (arith, join, one.looked, two.looked);
  scanned = omega (arith, one.scanned, two.scanned);
  moved = two.moved ∙ one.moved;
}

-- Looks up to a place and those of a search from there are within the looks of the whole search, if the scans are
-- bounded.
looks-from : (kind : MatchKind) (deterministic : Bool) (s : Search) (at : ℕ) (r : Option Occurrence) (x y z : Steps)
    → MayGoOnFrom s at → IsBest kind (starting_at s at) r
    → y.looked.value ≤ x.looked.value + lookups_per_byte deterministic * (at - s.start) → y.moved.value ≡ x.moved.value
    → z.scanned.value ≤ x.scanned.value + 256 * (over_at s r - s.start)
    → IsFindWork kind deterministic (starting_at s at) r y z → IsFindWork kind deterministic s r x z
looks-from kind deterministic s at None x y z here best one moved scanned two =
    let join = looks_join deterministic (at - s.start) (s.end - at) (s.end - s.start)
    (omega (arith, here.behind, here.within)) in
    record {
      looked = omega (arith, join, one, two.looked);
      standard = λ e. omega (arith, join, one, two.standard e);
      leftmost = λ o e. absurd (none-some o e);
      scanned = scanned;
      moved = two.moved ∙ moved;
    }
looks-from kind deterministic s at (Some b) x y z here best one moved scanned two =
    let w = best.0.within in
    let whole = looks_join deterministic (at - s.start) (s.end - at) (s.end - s.start)
    (omega (arith, here.behind, here.within)) in
    let ended =
    looks_join deterministic (at - s.start) (b.end - at) (b.end - s.start) (omega (arith, here.behind, w.0, w.1)) in
    let seen = looks_join deterministic (at - s.start) (b.start + longest s.patterns + 1 - at)
    (b.start + longest s.patterns + 1 - s.start) (omega (arith, here.behind, w.0, w.1)) in
    record {
      looked = omega (arith, whole, one, two.looked);
      standard = λ e. omega (arith, ended, one, two.standard e);
      leftmost = λ o e.
          let begins : b.start ≡ o.start = ap (λ q. q.start) (same_Some b o e) in
          let bound : z.looked.value ≤ x.looked.value + lookups_per_byte deterministic
          * (b.start + longest s.patterns + 1 - s.start) = omega (arith, seen, one, two.leftmost b refl) in
          subst (λ n. z.looked.value ≤ x.looked.value + lookups_per_byte deterministic
          * (n + longest s.patterns + 1 - s.start)) begins bound;
      scanned = scanned;
      moved = two.moved ∙ moved;
    }

-- scans up to a place, and those of a search from there, are within the bound of the whole search
scans-from : (kind : MatchKind) {s : Search} {at : ℕ} (r : Option Occurrence) (x y z : Steps) → MayGoOnFrom s at
    → IsBest kind (starting_at s at) r → y.scanned.value ≤ x.scanned.value + 256 * (at - s.start)
    → z.scanned.value ≤ y.scanned.value + 256 * (over_at (starting_at s at) r - at)
    → z.scanned.value ≤ x.scanned.value + 256 * (over_at s r - s.start)
scans-from kind None x y z here best one two = omega (arith, here.behind, here.within)
scans-from kind (Some b) x y z here best one two = let w = best.0.within in omega (arith, here.behind, w.0, w.1)

-- the work up to a place, and that of a search from there, is within the work of the whole search
pub find_work-from : {kind : MatchKind} {deterministic : Bool} {s : Search} {at : ℕ} {r : Option Occurrence}
    {x y z : Steps} → MayGoOnFrom s at → IsBest kind (starting_at s at) r → IsWorkTo deterministic s at x y
    → IsFindWork kind deterministic (starting_at s at) r y z → IsFindWork kind deterministic s r x z
find_work-from {kind} {deterministic} {s} {at} {r} {x} {y} {z} here best one two =
    looks-from kind deterministic s at r x y z here best one.looked one.moved
    (scans-from kind r x y z here best one.scanned two.scanned) two

-- nothing begins before a leftmost best match
leftmost-goes_on : (kind : MatchKind) (s : Search) (b : Occurrence) → kind ≢ Standard → IsBest kind s (Some b)
    → MayGoOnFrom s b.start
leftmost-goes_on kind s b leftmost h = record {
  behind = h.0.within.0;
  within = omega (arith, h.0.within.1, h.0.within.2);
  none = λ o occurs. leftmost-no_later kind b o leftmost (h.1 o occurs);
}

-- a match that a prefilter returns is the best, if the search uses the automaton's kind
pub match-asked_best : (kind : MatchKind) (earliest : Bool) (s : Search) (b : Occurrence)
    → IsCandidate kind s (candidates.Match b) → asked_kind kind earliest ≡ kind
    → IsBest (asked_kind kind earliest) s (Some b)
match-asked_best Standard earliest s b h asked = h.2 (h.1 refl) (asked_kind Standard earliest)
match-asked_best LeftmostFirst earliest s b h asked = subst (λ k. IsBest k s (Some b)) (sym asked) (h.0 (λ e. cc))
match-asked_best LeftmostLongest earliest s b h asked = subst (λ k. IsBest k s (Some b)) (sym asked) (h.0 (λ e. cc))

-- nothing begins before a match that a prefilter returns
pub match-goes_on : (kind : MatchKind) (s : Search) (b : Occurrence) → IsCandidate kind s (candidates.Match b)
    → MayGoOnFrom s b.start
match-goes_on Standard s b h = leftmost-goes_on LeftmostFirst s b (λ e. cc) (h.2 (h.1 refl) LeftmostFirst)
match-goes_on LeftmostFirst s b h = leftmost-goes_on LeftmostFirst s b (λ e. cc) (h.0 (λ e. cc))
match-goes_on LeftmostLongest s b h = leftmost-goes_on LeftmostLongest s b (λ e. cc) (h.0 (λ e. cc))

-- a prefilter's scan never passes the best match of the search
told_work-scanned : (kind : MatchKind) {s : Search} {told : End (Option Occurrence)} (r : Option Occurrence)
    {x y : Steps} → s.start ≤ s.end → IsBest kind s r → IsCandidateWork s told x y
    → y.scanned.value ≤ x.scanned.value + 256 * (over_at s r - s.start)
told_work-scanned kind None ordered best h = omega (arith, h.within)
told_work-scanned kind (Some b) ordered best h =
    omega (arith, best.0.within.0, best.0.within.1, h.before_ends b best.0)

-- what a walk reports from a place before which nothing begins, it reports of the whole search
pub end_says-from : (kind : MatchKind) {s : Search} {at : ℕ} (end : End (Option Occurrence)) → s.anchored ≡ false
    → MayGoOnFrom s at → EndSays kind (starting_at s at) end → EndSays kind s end
end_says-from kind (Found r) free here h = best-from kind r free here h
end_says-from kind {s} {at} (Idle from) free here h =
    (omega (arith, here.behind, h.0), h.1, λ o occurs. h.2 o (occurs_behind s at o free (here.none o occurs) occurs))

-- the cost of a prefilter that returns a place and of a walk from there is within the work of a search
pub told_work-walk : (kind : MatchKind) (deterministic : Bool) {s : Search} {at : ℕ} (end : End (Option Occurrence))
    {x y : Steps} (z : Steps) → MayGoOnFrom s at → s.anchored ≡ false → IsCandidateWork s (Idle at) x y
    → EndSays kind (starting_at s at) end → IsWalkWork kind deterministic (starting_at s at) end y z
    → IsSearchWork kind deterministic s end x z
told_work-walk kind deterministic {s} {at} (Found r) {x} {y} z here free told says h =
    let best = best-from kind r free here says in
    let ordered : s.start ≤ s.end = omega (arith, here.behind, here.within) in
    let scanned = subst (λ n. n ≤ x.scanned.value + 256 * (over_at s r - s.start)) (sym h.1)
    (told_work-scanned kind r ordered best told) in
    looks-from kind deterministic s at r x y z here says (omega (arith, told.looked)) told.moved scanned h.0
told_work-walk kind deterministic {s} {at} (Idle from) z here free told says h =
    let join =
    looks_join deterministic (at - s.start) (from - at) (from - s.start) (omega (arith, here.behind, says.0)) in
    record {
      looked = omega (arith, join, told.looked, h.0);
      scanned = omega (arith, here.behind, says.0, told.near at refl, h.1);
      moved = h.2 ∙ told.moved;
    }

-- A search has come to a place: nothing begins before it, and the work so far is bounded by the way. An anchored one is
-- where it began.
pub record HasCome (deterministic : Bool) (s : Search) (at : ℕ) (before after : Steps) : Type 0 where
  pub free : (at ≡ s.start) ⊎ (s.anchored ≡ false)
  pub goes_on : MayGoOnFrom s at
  pub work : IsWorkTo deterministic s at before after

-- a further walk that ends back at the start takes the search on to that place
pub has_come-further : (kind : MatchKind) {deterministic : Bool} {s : Search} {at : ℕ} (from : ℕ) {x y : Steps}
    (z : Steps) → s.anchored ≡ false → HasCome deterministic s at x y → EndSays kind (starting_at s at) (Idle from)
    → IsSearchWork kind deterministic (starting_at s at) (Idle from) y z → HasCome deterministic s from x z
has_come-further kind {at} from z free here says work =
    let k : at ≤ from = omega (arith, says.0) in
    record {
      free = inr free;
      goes_on = goes_on-further free here.goes_on (record { behind = k; within = says.1; none = says.2 });
      work = work_to-further here.goes_on.behind k here.work work;
    }

-- the best match from there on is the best of all
pub has_come-best : (kind : MatchKind) {deterministic : Bool} {s : Search} {at : ℕ} (r : Option Occurrence)
    {x y : Steps} → HasCome deterministic s at x y → IsBest kind (starting_at s at) r → IsBest kind s r
has_come-best kind {s} {at} r here best =
    ⊎_elim
    (λ (first : at ≡ s.start). subst (λ n. IsBest kind (starting_at s n) r) first best)
    (λ (free : s.anchored ≡ false). best-from kind r free here.goes_on best)
    here.free
