-- The next pick of a walk, what it costs, and what it leaves of the walk.
use Rattle.std.proofs.Common.{◌≡◌, ℕ, ◌+◌, ◌-◌, ◌*◌, ◌<◌, ◌≤◌, Bool, true, false, ◌∷◌, length, Option, None, Some, IfSome, add-zero, if◌then◌else◌, refl, sym, ap, subst, ◌∙◌, arith}
use Rattle.std.proofs.Math.Nat.{mul-add, mul-le-mul_left}
use Rattle.std.proofs.lemmas.Option.{none-some}
use Rattle.std.specs.Iterator.{YieldsFirst, MakesProgress, item_count}
use Rattle.ac_input.specs.declared.search.MatchKind.{MatchKind}
use Rattle.ac_input.specs.declared.search.MatchKind.TheVariants.{Standard}
use Rattle.ac_input.specs.declared.steps.Steps.{Steps}
use Rattle.ac_input.specs.Best.{IsBest}
use Rattle.ac_input.specs.Input.{Asked, is_anchored}
use Rattle.ac_input.specs.Occurrence.{Search, Occurrence, starting_at}
use Rattle.ac_input.specs.Steps.{Added, AreNone}
use Rattle.ac_input.specs.Walk.{Repeats, IsPick, Here, Further}
use Rattle.ac_input.specs.Work.{HasCounted, IsFindWork, longest, lookups_per_byte, over_at}
use Rattle.ac_input.proofs.lemmas.WalkLemmas.{walk_after-none, walk_after-some, walk_after-nothing}
use Rattle.ac_automaton.specs.Automaton.{Built, prefilter_for, searched}
use Rattle.ac_automaton.specs.InMemory.Iter.{CostsPick, CountsPick, CountsWalk, IsOnItsWay, IsRestOf, IsWithinBudget, PickCounts, Walk, walk_after_pick, walk_at, walk_kind, left_of, IsPickCost, IsPickWork, IsPickOf, passed, passed_again}
use Rattle.ac_automaton.proofs.in_memory.find.CountedLemmas.{counted-moved, sums-more, counted-none}
use Rattle.ac_input.proofs.lemmas.UnusedLemmas.{best-fresh}

-- a walk's pick at a place doesn't depend on where the search began
pub pick-wherever : {kind : MatchKind} {s : Search} {begun at : ℕ} {last : Option ℕ} {r : Option Occurrence}
    → IsPick kind s at last r → IsPick kind (starting_at s begun) at last r
pick-wherever (Here h n) = Here h n
pick-wherever (Further b h rep k) = Further b h rep k

-- the pick of the input that is left is the walk's next pick
pub pick-of_walk : {b : Built} {first : ℕ} {left : Asked} {last : Option ℕ} {given : ℕ} {sums : Steps} {w : Walk}
    {r : Option Occurrence} →
    walk_at b first left last given sums ≡ w → IsPickOf b left last r
    → IsPick (walk_kind w) (searched w.built w.asked) w.at w.last r
pick-of_walk {last} {r} e h =
    subst (λ v. IsPick (walk_kind v) (searched v.built v.asked) v.at v.last r) e (pick-wherever h)

-- the walk after a pick, by the calls that make it: it stands where the pick ended
pub given-some : {b : Built} {first : ℕ} {i left : Asked} {last : Option ℕ} {given count : ℕ} {sums : Steps}
    (more : Steps) {w : Walk} {r : Option Occurrence} {o : Occurrence} {n : ℕ} → walk_at b first i last given sums ≡ w
    → r ≡ Some o → left ≡ record i { span = record i.span { start = o.end } } → n ≡ o.end → count ≡ given + 1
    → walk_at b first left (Some n) count more
    ≡ record (walk_after_pick w r) { looked = more.looked.value; scanned = more.scanned.value; moved = more.moved.value }
given-some {b} {first} {i} {given} {count} more {w} {o} {n} view is rest there counted =
    ap (λ l. walk_at b first l (Some n) count more) rest
    ∙ ap (λ m. walk_at b first (record i { span = record i.span { start = o.end } }) (Some m) count more) there
    ∙ ap (λ k. walk_at b first (record i { span = record i.span { start = o.end } }) (Some o.end) k more) counted
    ∙ ap (λ x. record (walk_after_pick x (Some o)) { looked = more.looked.value; scanned = more.scanned.value; moved = more.moved.value })
    view
    ∙ ap (λ q. record (walk_after_pick w q) { looked = more.looked.value; scanned = more.scanned.value; moved = more.moved.value })
    (sym is)

-- and where there was none, past the span
pub given-none : {b : Built} {first : ℕ} {i left : Asked} {last : Option ℕ} {given : ℕ} {sums : Steps} (more : Steps)
    {w : Walk} {r : Option Occurrence} → walk_at b first i last given sums ≡ w → r ≡ None
    → left ≡ record i { span = record i.span { start = i.span.end + 1 } }
    → walk_at b first left last given more
    ≡ record (walk_after_pick w r) { looked = more.looked.value; scanned = more.scanned.value; moved = more.moved.value }
given-none {b} {first} {i} {last} {given} more {w} view is rest =
    ap (λ l. walk_at b first l last given more) rest
    ∙ ap (λ x. record (walk_after_pick x None) { looked = more.looked.value; scanned = more.scanned.value; moved = more.moved.value })
    view
    ∙ ap (λ q. record (walk_after_pick w q) { looked = more.looked.value; scanned = more.scanned.value; moved = more.moved.value })
    (sym is)

-- the rest of an input, by the calls that make it: the pick may have moved the start, and then it is set
pub rest-by : (asked between left : Asked) (place : ℕ) {to : ℕ} → IsRestOf asked between
    → left ≡ record between { span = record between.span { start = place } } → place ≡ to
    → left ≡ record asked { span = record asked.span { start = to } }
rest-by asked between left place rest is there =
    is ∙ ap (λ (i : Asked). record i { span = record i.span { start = place } }) rest
    ∙ ap (λ n. record asked { span = record asked.span { start = n } }) there

-- after a pick a walk is on its way
pub on-after : {b : Built} {first : ℕ} {i : Asked} {last : Option ℕ} {given count : ℕ} {sums more : Steps}
    (o : Occurrence) → IsOnItsWay (walk_at b first i last given sums) → (i.span.start ≤ o.end) × (o.end ≤ i.span.end)
    → IsOnItsWay (walk_at b first (record i { span = record i.span { start = o.end } }) (Some o.end) count more)
on-after o way lies = record {
  begun = omega (arith, way.begun, lies.0);
  within = (omega (arith, lies.1), way.within.1);
  last = omega arith;
}

-- and so it is past the span
last-on : (last : Option ℕ) {at to : ℕ} → at ≤ to → IfSome last (λ end. end ≤ at) → IfSome last (λ end. end ≤ to)
last-on None le h = h
last-on (Some l) le h = omega (arith, le, h)

pub on-past : {b : Built} {first : ℕ} {i : Asked} {last : Option ℕ} {given count : ℕ} {sums more : Steps}
    → i.span.start ≤ i.span.end → IsOnItsWay (walk_at b first i last given sums)
    → IsOnItsWay (walk_at b first (record i { span = record i.span { start = i.span.end + 1 } }) last count more)
on-past {last} ordered way = record {
  begun = omega (arith, way.begun, ordered);
  within = (omega arith, way.within.1);
  last = last-on last (omega (arith, ordered)) way.last;
}

-- nothing is found past the end of a span
pub best-past : (kind : MatchKind) {s : Search} → s.end < s.start → IsBest kind s None
best-past kind lt = λ o h. let w = h.within in omega arith

-- The cost of a find that repeats the last pick, counted up to its end, is nothing.
pub record IsFree (kind : MatchKind) (before after : Steps) : Type 0 where
  pub standard : kind ≡ Standard → after.looked.value ≤ before.looked.value
  pub scanned : after.scanned.value ≤ before.scanned.value
  pub moved : after.moved.value ≡ before.moved.value

pub repeat-free : {kind : MatchKind} {deterministic : Bool} {s : Search} (last : Option ℕ) (r : Option Occurrence)
    {before after : Steps} → IfSome last (λ end. end ≤ s.start) → Repeats last r
    → IsFindWork kind deterministic s r before after → IsFree kind before after
repeat-free None r le rep work = absurd rep
repeat-free (Some l) None le rep work = absurd rep
repeat-free {deterministic} {s} (Some l) (Some o) le rep work =
    let none : o.end - s.start ≡ 0 = let e = rep.1 in omega arith in
    record {
      standard = λ k. let h = work.standard k in let z = ap (λ n. lookups_per_byte deterministic * n) none in
          omega arith;
      scanned = let h = work.scanned in omega arith;
      moved = work.moved;
    }

-- a walk that has met an empty match at the end of the span has no further pick
pub pick-ended : {kind : MatchKind} {s : Search} {at : ℕ} {last : Option ℕ} (best : Option Occurrence) → s.end ≤ at
    → IsBest kind (starting_at s at) best → Repeats last best → IsPick kind s at last None
pick-ended {kind} best le h rep = Further best h rep (best-past kind (omega arith))

-- where a result is over doesn't depend on where the search began
over-wherever : (s : Search) (at : ℕ) (r : Option Occurrence) → over_at (starting_at s at) r ≡ over_at s r
over-wherever s at None = refl
over-wherever s at (Some o) = refl

-- The work of a pick that is the best from one byte further on, after a best match that repeats the last pick.
pub work-further : {kind : MatchKind} {deterministic : Bool} {s : Search} (last : Option ℕ)
    {first r : Option Occurrence} {before between after : Steps} →
    s.end ≤ length s.haystack → IfSome last (λ end. end ≤ s.start) → IsBest kind s first → Repeats last first
    → IsFindWork kind deterministic s first before between
    → IsFindWork kind deterministic (starting_at s (s.start + 1)) r between after
    → IsPickWork kind deterministic s s.start r before after
work-further {kind} {deterministic} {s} last {first} {r} inside le best rep once twice =
    let free = repeat-free last first le rep once in
    let same = over-wherever s (s.start + 1) r in
    let less : over_at (starting_at s (s.start + 1)) r - (s.start + 1) ≤ over_at s r - s.start = omega arith in
    let shorter : s.end - (s.start + 1) ≤ s.end - s.start = omega arith in
    record {
      looked = let a = once.looked in let b = twice.looked in
          omega (arith, mul-le-mul_left (lookups_per_byte deterministic) shorter);
      standard = λ k. let a = free.standard k in let b = twice.standard k in
          omega (arith, mul-le-mul_left (lookups_per_byte deterministic) less);
      once = λ some. absurd (best-fresh kind s last first inside some best rep);
      leftmost = λ some o is. absurd (best-fresh kind s last first inside some best rep);
      scanned = let a = free.scanned in let d = twice.scanned in omega arith;
      moved = twice.moved ∙ free.moved;
    }

-- A pick is the first of those that were left, and leaves the others. Where there is no pick, none was left and none is
-- left.
pub pick-yields : (w : Walk) {v : Walk} (r : Option Occurrence) → v.asked.span.end ≤ length v.asked.haystack
    → IsPick (walk_kind w) (searched w.built w.asked) w.at w.last r
    → (v ≡ record (walk_after_pick w r) { looked = v.looked; scanned = v.scanned; moved = v.moved })
    → YieldsFirst left_of w r v
pick-yields w None inside h e = (
  walk_after-none (rw e at inside) h,
  ap left_of e ∙ walk_after-nothing (walk_kind w) (searched w.built w.asked) w.last (omega arith),
)
pick-yields w (Some o) inside h e = walk_after-some (rw e at inside) h ∙ ap (λ x. o ∷ left_of x) (sym e)

-- a call leaves fewer picks than there were
pub yields-progress : {w v : Walk} (r : Option Occurrence) → YieldsFirst left_of w r v
    → MakesProgress (λ _. Unit {0}) (item_count left_of) w r v
yields-progress None h = record { on = λ _. tt; keeps = tt; rests = λ _. tt }
yields-progress (Some o) h = let longer = ap length h in
    record { on = λ _. (tt, tt, omega arith); keeps = tt; rests = λ _. tt }

-- ---- what is counted

-- past the span no byte is left to pass, whether the search is anchored or not
none-left : (anchored : Bool) {at end : ℕ} → end < at → (if anchored then at else end) - at ≡ 0
none-left true past = omega arith
none-left false past = omega arith

-- past the span a pick costs nothing
pub idle-cost : {w : Walk} (x : Steps) → w.asked.span.end < w.at → IsWithinBudget w → CountsWalk w
    → CostsPick w w x x None
idle-cost {w} x past paid had = (
  (
    0,
    0,
    0,
    record { looked = sym (add-zero _); scanned = sym (add-zero _); moved = sym (add-zero _) },
    sym (add-zero _),
    sym (add-zero _),
    sym (add-zero _),
  ),
  record {
    pick = record {
      looked = omega arith;
      standard = λ k. omega arith;
      once = λ some. omega arith;
      leftmost = λ some o e. absurd (none-some o e);
      scanned = omega arith;
      moved = refl;
    };
    idle = λ _. refl;
  },
  record {
    pick = λ some. counted-none (prefilter_for w.built w.asked.anchored) _ x
        (none-left (is_anchored w.asked.anchored) past);
    walk = had;
  },
  paid,
)

-- after its next pick, a walk has counted each byte that lies before it
walk-counts-on : (w : Walk) {v : Walk} (r : Option Occurrence) {start done : Steps}
    → (v ≡ record (walk_after_pick w r) { looked = v.looked; scanned = v.scanned; moved = v.moved })
    → w.asked.span.start ≤ w.at → w.at ≤ w.asked.span.end
    → AreNone start → v.looked ≡ w.looked + done.looked.value → v.scanned ≡ w.scanned + done.scanned.value
    → PickCounts w.built (record w.asked { span = record w.asked.span { start = w.at } }) r start done → CountsWalk w
    → CountsWalk v
walk-counts-on w {v} r {start} {done} after begun within none looked scanned counts had =
    subst CountsWalk (sym after) (by r counts)
  where
    by : (r : Option Occurrence) → PickCounts w.built (record w.asked { span = record w.asked.span { start = w.at } }) r
        start done
        → CountsWalk (record (walk_after_pick w r) { looked = v.looked; scanned = v.scanned; moved = v.moved })
    by None counts = λ free some bytes.
        let more : HasCounted w.built.prefilter (w.asked.span.end - w.at) start done =
        subst (λ a. HasCounted (prefilter_for w.built a) ((if is_anchored a then w.at else w.asked.span.end) - w.at)
        start done) free (counts some) in
        let before = had free some bytes in
        sums-more w.built.prefilter (passed w) (w.asked.span.end - w.at) _ w.looked w.scanned v.looked v.scanned
        done (omega arith) none looked scanned before (λ _. more) bytes
    by (Some o) counts = λ free some bytes.
        let more : HasCounted w.built.prefilter (o.end - w.at) start done =
        subst (λ a. HasCounted (prefilter_for w.built a) (o.end - w.at) start done) free (counts some) in
        let before = had free some bytes in
        sums-more w.built.prefilter (passed w) (o.end - w.at) _ w.looked w.scanned v.looked v.scanned done
        (omega arith) none looked scanned before (λ _. more) bytes

-- The next pick, added from fresh steps, is counted in the walk and in the steps.
pick-counted : {w v : Walk} {r : Option Occurrence} {start done before after : Steps}
    → (v ≡ record (walk_after_pick w r) { looked = v.looked; scanned = v.scanned; moved = v.moved })
    → w.asked.span.start ≤ w.at → w.at ≤ w.asked.span.end
    → AreNone start → Added done before after → v.looked ≡ w.looked + done.looked.value
    → v.scanned ≡ w.scanned + done.scanned.value
    → PickCounts w.built (record w.asked { span = record w.asked.span { start = w.at } }) r start done → CountsWalk w
    → CountsPick w v before after r
pick-counted {w} {r} {start} {done} {before} {after} goes begun within none added looked scanned counts had = record {
  pick = λ some. counted-moved (prefilter_for w.built w.asked.anchored) _ start done before after none added
      (counts some);
  walk = walk-counts-on w r goes begun within none looked scanned counts had;
}

-- the work of a pick, added from fresh steps
work-added : {kind : MatchKind} {deterministic : Bool} (s : Search) {at : ℕ} {r : Option Occurrence}
    {start done : Steps} (before after : Steps) → AreNone start → Added done before after
    → IsPickWork kind deterministic (starting_at s at) at r start done
    → IsPickWork kind deterministic s at r before after
work-added {deterministic} s {at} {r} {start} {done} before after none added work =
    let same = over-wherever s at r in
    record {
      looked = omega (arith, work.looked, none.looked, added.looked);
      standard = λ k. let a =
          subst (λ over. done.looked.value ≤ start.looked.value + lookups_per_byte deterministic * (over - at)) same
          (work.standard k) in omega (arith, none.looked, added.looked);
      once = λ some. omega (arith, work.once some, none.looked, added.looked);
      leftmost = λ some o is. omega (arith, work.leftmost some o is, none.looked, added.looked);
      scanned = let a = subst (λ over. done.scanned.value ≤ start.scanned.value + 256 * (over - at)) same
          work.scanned in omega (arith, none.scanned, added.scanned);
      moved = omega (arith, work.moved, none.moved, added.moved);
    }

-- the sums of a walk rose by what was done
pub record HasDone (w v : Walk) (done : Steps) : Type 0 where
  pub looked : v.looked ≡ w.looked + done.looked.value
  pub scanned : v.scanned ≡ w.scanned + done.scanned.value
  pub moved : v.moved ≡ w.moved + done.moved.value

-- A pick from fresh steps, which are added to the walk's and to those of the caller, costs no more than the next pick
-- may.
pub pick-costs : {w v : Walk} {r : Option Occurrence} {start done before after : Steps}
    → (v ≡ record (walk_after_pick w r) { looked = v.looked; scanned = v.scanned; moved = v.moved })
    → w.asked.span.start ≤ w.at → w.at ≤ w.asked.span.end
    → AreNone start → Added done before after → HasDone w v done
    → IsPickWork (walk_kind w) w.built.deterministic (starting_at (searched w.built w.asked) w.at) w.at r start done
    → PickCounts w.built (record w.asked { span = record w.asked.span { start = w.at } }) r start done → CountsWalk w
    → IsWithinBudget v → CostsPick w v before after r
pick-costs {w} {r} {start} {done} {before} {after} goes begun within none added more work counts had paid = (
  (done.looked.value, done.scanned.value, done.moved.value, added, more.looked, more.scanned, more.moved),
  record {
    pick = work-added (searched w.built w.asked) before after none
        added work;
    idle = λ past. absurd (omega arith);
  },
  pick-counted goes begun within none added more.looked more.scanned counts had,
  paid,
)

-- ---- what a walk has cost after a pick

-- a pick lies within the span, where the walk stood or later
pub pick-lies : {kind : MatchKind} {s : Search} {at : ℕ} {last : Option ℕ} {o : Occurrence}
    → IsPick kind s at last (Some o) → (at ≤ o.start) × (o.start ≤ o.end) × (o.end ≤ s.end)
pick-lies (Here best apart) = best.0.within
pick-lies (Further b first repeats best) = let within = best.0.within in (omega (arith, within.0), within.1, within.2)

-- looks for some bytes and for those after them
looks-join : (deterministic : Bool) {old done new : ℕ} (n k m : ℕ) → old ≤ lookups_per_byte deterministic * n
    → done ≤ lookups_per_byte deterministic * k → n + k ≤ m → new ≡ old + done
    → new ≤ lookups_per_byte deterministic * m
looks-join true n k m before more fits sum = omega (arith, before, more, fits, sum)
looks-join false n k m before more fits sum = omega (arith, before, more, fits, sum)

-- where the next search begins: at the pick's end, or past the span
abbrev pub after_pick : Asked → Option Occurrence → ℕ
after_pick asked None = asked.span.end + 1
after_pick asked (Some o) = o.end

-- where the pick before the next one ended
abbrev pub last_pick : Option ℕ → Option Occurrence → Option ℕ
last_pick last None = last
last_pick last (Some o) = Some o.end

-- how many picks were given
abbrev pub given_by : ℕ → Option Occurrence → ℕ
given_by given None = given
given_by given (Some o) = given + 1

-- the walk after the pick of an input that is left, with what it has cost then
abbrev pub walk_past : Built → ℕ → Asked → Option ℕ → ℕ → Option Occurrence → Steps → Walk
walk_past b first asked last given r more =
    walk_at b first (record asked { span = record asked.span { start = after_pick asked r } }) (last_pick last r)
    (given_by given r) more

-- a walk within its budget is so after its next pick
pub budget-after : (b : Built) {first : ℕ} {asked : Asked} {last : Option ℕ} {given : ℕ} {sums more : Steps}
    (r : Option Occurrence) {start done : Steps} → first ≤ asked.span.start → asked.span.start ≤ asked.span.end
    → AreNone start → Added done sums more → IsPickOf b asked last r → IsPickCost b asked start done r
    → IsWithinBudget (walk_at b first asked last given sums) → IsWithinBudget (walk_past b first asked last given r more)
budget-after b {first} {asked} {last} {given} {sums} {more} None begun ordered none added pick work paid =
    let d = b.deterministic in
    let before : ℕ = passed (walk_at b first asked last given sums) in
    let after : ℕ = passed (walk_past b first asked last given None more) in
    let again : ℕ = passed_again (walk_at b first asked last given sums) in
    let left : ℕ = asked.span.end - asked.span.start in
    let sum : before + left ≡ after = omega (arith, begun, ordered) in
    record {
      looked = λ standard. looks-join d before left after (paid.looked standard)
          (omega (arith, work.standard standard, none.looked)) (omega (arith, sum)) added.looked;
      leftmost = λ some. looks-join d (before + again) left (after + again) (paid.leftmost some)
          (omega (arith, work.once some, none.looked)) (omega (arith, sum)) added.looked;
      scanned = omega (arith, work.scanned, none.scanned, added.scanned, paid.scanned, sum);
      moved = omega (arith, work.moved, none.moved, added.moved, paid.moved);
    }
budget-after b {first} {asked} {last} {given} {sums} {more} (Some o) begun ordered none added pick work paid =
    let d = b.deterministic in
    let lies = pick-lies pick in
    let before : ℕ = passed (walk_at b first asked last given sums) in
    let after : ℕ = passed (walk_past b first asked last given (Some o) more) in
    let long : ℕ = longest b.dictionary.patterns + 1 in
    let again : ℕ = long * given in
    let sum : before + (o.end - asked.span.start) ≡ after = omega (arith, begun, lies.0, lies.1, lies.2) in
    let once : long * (given + 1) ≡ again + long = let e = mul-add long given 1 in omega (arith, e) in
    record {
      looked = λ standard. looks-join d before (o.end - asked.span.start) after (paid.looked standard)
          (omega (arith, work.standard standard, none.looked)) (omega (arith, sum)) added.looked;
      leftmost = λ some. looks-join d (before + again) (o.start + longest b.dictionary.patterns + 1 - asked.span.start)
          (after + long * (given + 1)) (paid.leftmost some) (omega (arith, work.leftmost some o refl, none.looked))
          (omega (arith, sum, once, lies.1)) added.looked;
      scanned = omega (arith, work.scanned, none.scanned, added.scanned, paid.scanned, sum);
      moved = omega (arith, work.moved, none.moved, added.moved, paid.moved);
    }

-- after a pick a walk is on its way
pub way-after : {b : Built} {first : ℕ} {asked : Asked} {last : Option ℕ} {given : ℕ} {sums more : Steps}
    (r : Option Occurrence) → asked.span.start ≤ asked.span.end → IsPickOf b asked last r
    → IsOnItsWay (walk_at b first asked last given sums) → IsOnItsWay (walk_past b first asked last given r more)
way-after None ordered pick way = on-past ordered way
way-after (Some o) ordered pick way = let lies = pick-lies pick in
    on-after o way (omega (arith, lies.0, lies.1), lies.2)

-- and has counted each byte that it has passed
pub counts-after : (b : Built) {first : ℕ} (asked : Asked) (last : Option ℕ) (given : ℕ) {sums more : Steps}
    (r : Option Occurrence) {start done : Steps} → first ≤ asked.span.start → asked.span.start ≤ asked.span.end
    → AreNone start → Added done sums more → PickCounts b asked r start done
    → CountsWalk (walk_at b first asked last given sums) → CountsWalk (walk_past b first asked last given r more)
counts-after b {first} asked last given {sums} {more} None begun ordered none added counted had =
    walk-counts-on (walk_at b first asked last given sums) {v = walk_past b first asked last given None more} None refl
    begun ordered none added.looked added.scanned
    counted had
counts-after b {first} asked last given {sums} {more} (Some o) begun ordered none added counted had =
    walk-counts-on (walk_at b first asked last given sums) {v = walk_past b first asked last given (Some o) more} (Some o) refl
    begun ordered none added.looked added.scanned
    counted had

-- all that a walk keeps of them
pub picked-kept : (b : Built) {first : ℕ} {asked : Asked} {last : Option ℕ} {given : ℕ} {sums more : Steps}
    (r : Option Occurrence) {start done : Steps} → IsOnItsWay (walk_at b first asked last given sums)
    → asked.span.start ≤ asked.span.end → AreNone start → Added done sums more → IsPickOf b asked last r
    → IsPickCost b asked start done r → PickCounts b asked r start done
    → IsWithinBudget (walk_at b first asked last given sums) → CountsWalk (walk_at b first asked last given sums)
    → IsOnItsWay (walk_past b first asked last given r more)
    × IsWithinBudget (walk_past b first asked last given r more) × CountsWalk (walk_past b first asked last given r more)
picked-kept b {asked = asked} {last = last} {given = given} r way ordered none added pick work counted paid had = (
  way-after r ordered pick way,
  budget-after b r way.begun ordered none added pick work paid,
  counts-after b asked last given r way.begun ordered none added counted had,
)

-- the walk after a pick, with what it has cost then
past-is : (b : Built) (first : ℕ) (asked : Asked) (last : Option ℕ) (given : ℕ) (more : Steps) (r : Option Occurrence)
    → record (walk_after_pick (walk_at b first asked last given more) r) { looked = more.looked.value; scanned = more.scanned.value; moved = more.moved.value }
    ≡ walk_past b first asked last given r more
past-is b first asked last given more None = refl
past-is b first asked last given more (Some o) = refl

-- the calls that make it
pub past-some : (b : Built) (first : ℕ) (i : Asked) (last : Option ℕ) (given : ℕ) (more : Steps) (r : Option Occurrence)
    {left : Asked} {o : Occurrence} {n count : ℕ} → r ≡ Some o
    → left ≡ record i { span = record i.span { start = o.end } } → n ≡ o.end → count ≡ given + 1
    → walk_at b first left (Some n) count more ≡ walk_past b first i last given r more
past-some b first i last given more r is rest there counted =
    given-some {i = i} {last = last} {given = given} {sums = more} more refl is rest there counted
    ∙ past-is b first i last given more r

-- and past the span
pub past-none : (b : Built) (first : ℕ) (i : Asked) (last : Option ℕ) (given : ℕ) (more : Steps) (r : Option Occurrence)
    {left : Asked} → r ≡ None → left ≡ record i { span = record i.span { start = i.span.end + 1 } }
    → walk_at b first left last given more ≡ walk_past b first i last given r more
past-none b first i last given more r is rest =
    given-none {i = i} {last = last} {given = given} {sums = more} more refl is rest
    ∙ past-is b first i last given more r

-- a walk that has not begun is within its budget
pub fresh-budget : (w : Walk) → w.looked ≡ 0 → w.scanned ≡ 0 → w.moved ≡ 0 → IsWithinBudget w
fresh-budget w looked scanned moved = record {
  looked = λ standard. omega (arith, looked);
  leftmost = λ some. omega (arith, looked);
  scanned = omega (arith, scanned);
  moved = moved;
}
