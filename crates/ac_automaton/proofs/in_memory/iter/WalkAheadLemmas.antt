-- What a walk that reads ahead has cost: for the bytes that it has passed, and with what was read ahead of it.
use Rattle.std.proofs.Common.{◌≡◌, ℕ, ◌+◌, ◌-◌, ◌*◌, ◌≤◌, min, Bool, true, false, List, length, take, Option, None, Some, sym, subst, ◌∙◌, arith}
use Rattle.std.proofs.lemmas.List.{length-take-le}
use Rattle.ac_input.specs.Number.{StateID}
use Rattle.ac_input.specs.declared.steps.Steps.{Steps}
use Rattle.ac_input.specs.Candidate.{Filter}
use Rattle.ac_input.specs.Input.{Asked}
use Rattle.ac_input.specs.Occurrence.{Occurrence}
use Rattle.ac_input.specs.Steps.{Added, AreNone}
use Rattle.ac_input.specs.Work.{bytes_counted, lookups_per_byte}
use Rattle.ac_input.specs.declared.search.MatchKind.TheVariants.{Standard}
use Rattle.ac_automaton.specs.Ahead.{IsReadOnceFrom, Settles, StaysReadOnce, bytes_ahead, less_ahead, most_ahead}
use Rattle.ac_automaton.specs.Automaton.{kind_asked}
use Rattle.ac_automaton.specs.InMemory.Find.Ahead.{IsAheadIn, ReadsAheadFrom, ended_at}
use Rattle.ac_automaton.specs.InMemory.Iter.{CountsWalk, IsOnItsWay, IsPickCost, IsPickOf, IsRestOf, IsWithinBudget, IsWithinBudgetAhead, PickCounts, Walk, passed, walk_at}
use Rattle.ac_automaton.specs.declared.ahead.Ahead.{Ahead}
use Rattle.ac_automaton.specs.declared.automaton.Automaton.{Ghosts}
use Rattle.ac_automaton.proofs.ahead.AheadLemmas.{ahead-within, less-added}
use Rattle.ac_automaton.proofs.in_memory.iter.IterLemmas.{after_pick, budget-after, counts-after, given_by, last_pick, pick-lies, rest-by, way-after}

-- a walk that has not begun has counted each byte that it has passed, since there is none
pub fresh-counts : (w : Walk) → w.at ≤ w.asked.span.start → CountsWalk w
fresh-counts w here = λ free some bytes. omega (arith, here)

-- looks for some bytes, and one for each of some more
pub more-looks : (deterministic : Bool) {looked : ℕ} (n k m : ℕ) → looked ≤ lookups_per_byte deterministic * n
    → n + k ≤ m → looked + k ≤ lookups_per_byte deterministic * m
more-looks true n k m within fits = omega (arith, within, fits)
more-looks false n k m within fits = omega (arith, within, fits)

-- looks beyond those for some bytes count them, too
more-counted : (filter : Option Filter) {looks more : ℕ} (places : ℕ) {n : ℕ} → looks ≤ more
    → n ≤ bytes_counted filter looks places → n ≤ bytes_counted filter more places
more-counted None places le within = omega (arith, within, le)
more-counted (Some f) places le within = omega (arith, within, le)

-- how much was read ahead of a walk that stands at a place
reads-few : {S : Type 0} (A : Ghosts S) (a : S) (start : Option StateID) (asked : Asked) {at : ℕ} (ahead : Ahead)
    → at ≤ asked.span.end → asked.span.end ≤ length asked.haystack
    → kind_asked (A.built a) asked ≡ Standard → ReadsAheadFrom A a start asked at ahead
    → (at + bytes_ahead ahead ≤ asked.span.end) × (bytes_ahead ahead ≤ most_ahead)
reads-few A a None asked ahead inside within standard none = (omega (arith, inside, none), omega (arith, none))
reads-few A a (Some start) asked ahead inside within standard reads =
    let long = length-take-le asked.span.end asked.haystack within in
    let few = ahead-within (sym reads.0.kind ∙ standard) (omega (arith, inside, long)) reads.1 in
    (omega (arith, few.0, long), few.1)

-- how much was read ahead of a walk that began at a place, all in all
reads-once : (first until : ℕ) {end n : ℕ} (bytes : List ℕ) → end ≤ length bytes
    → min first (length (take end bytes)) + n ≤ min until (length (take end bytes)) → n ≤ end - first
reads-once first until {end} bytes inside once = let long = length-take-le end bytes inside in omega (arith, once, long)

-- What a walk that reads ahead has cost for the bytes that it has passed: its sums, less what was read ahead of it. No
-- byte was read ahead twice.
pub record StandsPaid {S : Type 0} (A : Ghosts S) (a : S) (first : ℕ) (asked : Asked) (last : Option ℕ) (given : ℕ)
    (sums : Steps) (ahead : Ahead) : Type 0 where
  pub way : IsOnItsWay (walk_at (A.built a) first asked last given sums)
  pub budget : IsWithinBudget (walk_at (A.built a) first asked last given (less_ahead sums ahead))
  pub counts : CountsWalk (walk_at (A.built a) first asked last given (less_ahead sums ahead))
  pub once : IsReadOnceFrom first (take asked.span.end asked.haystack) ahead
  pub made : bytes_ahead ahead ≤ sums.looked.value

-- what the walk has cost with what was read ahead of it
pub walk-ahead : {S : Type 0} (A : Ghosts S) {a : S} (start : Option StateID) {first : ℕ} {asked : Asked}
    {last : Option ℕ} {given : ℕ} {sums : Steps} (ahead : Ahead) → StandsPaid A a first asked last given sums ahead
    → ReadsAheadFrom A a start asked (min asked.span.start asked.span.end) ahead
    → IsWithinBudgetAhead (walk_at (A.built a) first asked last given sums)
    × CountsWalk (walk_at (A.built a) first asked last given sums)
walk-ahead A {a} start {first} {asked} {last} {given} {sums} ahead stands reads =
    let begun = stands.way.begun in
    let inside = stands.way.within.1 in
    let made = stands.made in
    let paid = stands.budget in
    let few =
    λ (standard : kind_asked (A.built a) asked ≡ Standard).
    reads-few A a start asked ahead (omega arith) inside standard reads in
    let lost : bytes_ahead ahead ≤ asked.span.end - first = reads-once first ahead.until asked.haystack inside stands.once in
    let d = (A.built a).deterministic in
    let w = walk_at (A.built a) first asked last given (less_ahead sums ahead) in
    let all : (w.looked + bytes_ahead ahead) ≡ sums.looked.value = omega (arith, made) in (
      record {
        looked = λ standard. let le = more-looks d (passed w) (bytes_ahead ahead) (asked.span.end - first)
            (paid.looked standard) (omega (arith, (few standard).0, begun)) in omega (arith, le, all);
        near = λ standard. let le = paid.looked standard in omega (arith, le, all, (few standard).1);
        leftmost = λ some. let le = paid.leftmost some in omega (arith, le, all, lost);
        scanned = paid.scanned;
        moved = paid.moved;
      },
      λ free some bytes.
          more-counted (A.built a).prefilter sums.scanned.value (omega (arith, all)) (stands.counts free some bytes),
    )

-- ---- one pick more

-- A search counted from none, so much for the bytes that it has passed, and its looks were added to a walk's sums.
pub record HasSummed (fresh taken paid sums more : Steps) (before after : Ahead) : Type 0 where
  pub none : AreNone fresh
  pub settles : Settles before after taken paid
  pub added : Added taken sums more

module _ {S : Type 0} (A : Ghosts S) (a : S) (start : Option StateID) (first : ℕ) (asked : Asked) (last : Option ℕ)
    (given : ℕ) (r : Option Occurrence) (sums more fresh taken paid : Steps) (before after : Ahead)
    (stands : StandsPaid A a first asked last given sums before) (ordered : asked.span.start ≤ asked.span.end)
    (summed : HasSummed fresh taken paid sums more before after) (pick : IsPickOf (A.built a) asked last r)
    (work : IsPickCost (A.built a) asked fresh paid r) (counted : PickCounts (A.built a) asked r fresh paid)
    (reads : ReadsAheadFrom A a start asked (ended_at asked r) after)
    (once : StaysReadOnce (take asked.span.end asked.haystack) before after) where
  abbrev rest : Asked
  rest = record asked { span = record asked.span { start = after_pick asked r } }

  less : Added paid (less_ahead sums before) (less_ahead more after) × (bytes_ahead after ≤ more.looked.value)
  less = less-added summed.none summed.settles summed.added stands.made

  -- what the walk has cost for the bytes that it has passed
  pub picked-stands : StandsPaid A a first rest (last_pick last r) (given_by given r) more after
  picked-stands = record {
    way = way-after r ordered pick stands.way;
    budget = budget-after (A.built a) r stands.way.begun ordered summed.none less.0 pick work stands.budget;
    counts = counts-after (A.built a) asked last given r stands.way.begun ordered summed.none less.0 counted stands.counts;
    once = omega (arith, stands.once, once);
    made = less.1;
  }

  -- what was read ahead of the rest
  pub picked-reads : ReadsAheadFrom A a start rest (min (after_pick asked r) asked.span.end) after
  picked-reads = by start r pick reads
    where
      by : (start : Option StateID) (r : Option Occurrence) → IsPickOf (A.built a) asked last r
          → ReadsAheadFrom A a start asked (ended_at asked r) after
          → ReadsAheadFrom A a start (record asked { span = record asked.span { start = after_pick asked r } })
          (min (after_pick asked r) asked.span.end) after
      by None r pick reads = reads
      by (Some sid) None pick reads = (
        record { kind = reads.0.kind; filled = reads.0.filled; free = reads.0.free; starts = reads.0.starts },
        subst (λ n. IsAheadIn A a asked sid n after)
            (let e : asked.span.end ≡ min (asked.span.end + 1) asked.span.end = omega arith in e) reads.1,
      )
      by (Some sid) (Some o) pick reads = let lies = pick-lies pick in (
        record { kind = reads.0.kind; filled = reads.0.filled; free = reads.0.free; starts = reads.0.starts },
        subst (λ n. IsAheadIn A a asked sid n after)
            (let e : o.end ≡ min o.end asked.span.end = omega (arith, lies.2) in e) reads.1,
      )

  -- what the walk has cost then, with what was read ahead of it
  pub picked-ahead : IsWithinBudgetAhead (walk_at (A.built a) first rest (last_pick last r) (given_by given r) more)
      × CountsWalk (walk_at (A.built a) first rest (last_pick last r) (given_by given r) more)
  picked-ahead = walk-ahead A start after picked-stands picked-reads

-- the rest of an input, by the calls that make it
pub rest-is : (asked between left : Asked) (r : Option Occurrence) (place : ℕ) → IsRestOf asked between
    → left ≡ record between { span = record between.span { start = place } } → place ≡ after_pick asked r
    → left ≡ record asked { span = record asked.span { start = after_pick asked r } }
rest-is asked between left r place rest is there = rest-by asked between left place rest is there
