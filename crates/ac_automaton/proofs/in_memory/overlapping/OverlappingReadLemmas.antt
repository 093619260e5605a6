-- What an overlapping search pays as it reads on, and what it shows where it arrives.
use Rattle.std.proofs.Common.{◌≡◌, ℕ, zero, suc, ◌+◌, ◌-◌, ◌<◌, ◌≤◌, Bool, true, false, List, [], ◌∷◌, ◌++◌, length, map, drop, Option, Some, None, slice_get, sym, ap, subst, refl, ◌∙◌, arith}
use Rattle.std.proofs.lemmas.Bool.{false≢true}
use Rattle.ac_input.specs.declared.search.Anchored.{Anchored}
use Rattle.ac_input.specs.Number.{StateID}
use Rattle.ac_input.specs.declared.steps.Steps.{Steps}
use Rattle.ac_input.specs.Occurrence.{Search, Occurrence, starting_at}
use Rattle.ac_input.specs.Input.{is_anchored}
use Rattle.ac_input.specs.Dictionary.{Dictionary, IsLive, live_len}
use Rattle.ac_input.specs.Laws.LiveLaws.{shifted}
use Rattle.ac_input.specs.Tells.{Tells, ending}
use Rattle.ac_input.specs.Work.{IsLookups, come_at_least}
use Rattle.ac_automaton.specs.declared.in_memory.overlapping.Position.TheVariants.{At, Over}
use Rattle.ac_automaton.specs.declared.in_memory.find.cursor.Cursor.{Cursor}
use Rattle.ac_automaton.specs.declared.in_memory.find.cursor.End.TheVariants.{Found, Idle}
use Rattle.ac_automaton.specs.declared.in_memory.overlapping.Shown.{Shown}
use Rattle.ac_automaton.specs.InMemory.Overlapping.{ending_from, occurrences_from, TellsFirst, IsLeft, ShowsFirst, IsPaidTo, IsPaidAt, IsPlacePaid, IsPaidBy, OnlyLooked, stands_at_least}
use Rattle.ac_automaton.specs.InMemory.Find.Cursor.{counted, read_to, walked, IsCursor, IsQuiet, HasReadOn}
use Rattle.ac_automaton.specs.Automaton.{Built}
use Rattle.ac_automaton.proofs.in_memory.overlapping.OverlappingLemmas.{IsPlace, counted-past, ending_from-split, read_to-length, occurrences_from-none}
use Rattle.ac_input.proofs.lemmas.SomeLemmas.{live-some}

-- ---- what is paid

-- no more is live than was read
live_len-within : (text : List ℕ) (live : Option ℕ) → live_len text live ≤ length text
live_len-within text None = omega arith
live_len-within text (Some from) = omega arith

-- a walk that begins and has read nothing is paid for
pub paid-start : (m : Dictionary) (deterministic : Bool) (s : Search) (at looks : ℕ) → s.start ≤ at → at ≤ s.end
    → s.end ≤ length s.haystack → IsPaidTo deterministic s at looks → IsPaidAt m deterministic s at at looks
paid-start m true s at looks g h inside paid live is =
    let long = read_to-length (starting_at s at) at (omega arith) h inside in
    let within = live_len-within (read_to (starting_at s at) at) live in
    (omega arith, λ _. omega arith)
paid-start m false s at looks g h inside paid live is =
    let long = read_to-length (starting_at s at) at (omega arith) h inside in
    let within = live_len-within (read_to (starting_at s at) at) live in
    (omega arith, λ d. absurd (false≢true d))

-- The looks over more bytes are paid for by these bytes.
pub paid-on : (m : Dictionary) (deterministic : Bool) (s : Search) (from at to looks more : ℕ) (before after : Steps)
    → s.start ≤ from → from ≤ at → at ≤ to
    → ((live live_after : Option ℕ) → IsLive m s.anchored (read_to (starting_at s from) at) live
    → IsLive m s.anchored (read_to (starting_at s from) to) live_after
    → IsLookups deterministic (to - at) (live_len (read_to (starting_at s from) at) live)
    (live_len (read_to (starting_at s from) to) live_after) before after)
    → looks + after.looked.value ≡ more + before.looked.value
    → IsPaidAt m deterministic s from at looks
    → IsPaidAt m deterministic s from to more
paid-on m deterministic s from at to looks more before after g h k cost counted paid live_after is =
    let live = live-some in
    let done = cost live.0 live_after live.1 is in
    let bound = done.bound in
    let p = paid live.0 live.1 in
    let p0 = p.0 in
    (omega arith, λ d. let one = done.one d in let all = p.1 d in omega arith)

-- looks that are paid for where a walk stands are paid for up to any later place
pub paid-to : (m : Dictionary) (deterministic : Bool) (s : Search) (from at to looks : ℕ) → s.start ≤ at → at ≤ to
    → IsPaidAt m deterministic s from at looks → IsPaidTo deterministic s to looks
paid-to m true s from at to looks g h paid =
    let live = live-some in
    let all = (paid live.0 live.1).1 refl in
    omega arith
paid-to m false s from at to looks g h paid =
    let live = live-some in
    let bound = (paid live.0 live.1).0 in
    omega arith

-- ---- reading on

-- a search that is over and shows nothing has come as far as it claims
over-come : (s : Search) (r : Shown) → r.found ≡ None → r.place ≡ Over
    → come_at_least s r.found ≡ stands_at_least s r.place
over-come s r found place = ap (come_at_least s) found ∙ sym (ap (stands_at_least s) place)

-- a state's first occurrence ends at the place where the state was reached
told-end : (m : Dictionary) (text : List ℕ) (start : ℕ) (ns : List ℕ) (o : Occurrence) (rest : List Occurrence)
    → map (shifted start) (map (ending m text) ns) ≡ o ∷ rest → o.end ≡ start + length text
told-end m text start [] o rest e = cc
told-end m text start (n ∷ ns) o rest e =
    let first : shifted start (ending m text n) ≡ o = cc in
    sym (ap (λ x. x.end) first)

-- where nothing is left, nothing is shown, and the search is over
pub shows-none : (Reaches : List ℕ → StateID → Type 0) (matches : StateID → List ℕ) (m : Dictionary) (s : Search)
    (left : List Occurrence) (r : Shown) → left ≡ [] → r.found ≡ None → r.place ≡ Over
    → ShowsFirst Reaches matches m s left r
shows-none Reaches matches m s left r none found place =
    let all : (None ≡ slice_get left 0)
    × (drop 1 left ≡ []) = subst (λ xs. (None ≡ slice_get xs 0) × (drop 1 xs ≡ [])) (sym none) (refl, refl) in (
      found ∙ all.0,
      subst (λ p. IsLeft Reaches matches m s p (drop 1 left)) (sym place) all.1,
      over-come s r found place,
    )

-- the first occurrence of a state is the first that is left
pub shows-some : (Reaches : List ℕ → StateID → Type 0) (matches : StateID → List ℕ) (m : Dictionary) (s : Search)
    (left : List Occurrence) (cursor : Cursor) (index : ℕ) (r : Shown)
    → IsCursor Reaches s cursor
    → left ≡ occurrences_from m (walked s cursor) cursor.at (matches cursor.sid) index
    ++ ending_from (walked s cursor) (cursor.at + 1)
    → TellsFirst matches m s cursor index (Some r) → ShowsFirst Reaches matches m s left r
shows-some Reaches matches m s left cursor index r reads e (o, next, found, place, told) =
    let t = walked s cursor in
    let at : ℕ = cursor.at in
    let rest : List Occurrence = occurrences_from m t at (matches cursor.sid) next ++ ending_from t (at + 1) in
    let is : left ≡ o ∷ rest = e ∙ ap (λ xs. xs ++ ending_from t (at + 1)) told in
    let all : (Some o ≡ slice_get left 0)
    × (drop 1 left ≡ rest) = subst (λ xs. (Some o ≡ slice_get xs 0) × (drop 1 xs ≡ rest)) (sym is) (refl, refl) in
    let ends = told-end m (read_to t at) t.start (counted m t.anchored (at - t.start) (drop index (matches cursor.sid)))
    o _ told in
    let long = read_to-length t at reads.ordered reads.within reads.inside in
    let ordered = reads.ordered in
    let come : come_at_least s (Some o) ≡ stands_at_least s (At cursor.sid cursor.from at next) = omega arith in (
      found ∙ all.0,
      subst (λ p. IsLeft Reaches matches m s p (drop 1 left)) (sym place) (reads, all.1),
      ap (come_at_least s) found ∙ come ∙ sym (ap (stands_at_least s) place),
    )

-- A walk has read on to a further place. Occurrences that end after its first place end from `next` on, and its looks
-- are paid for.
pub record HasWalkedOn (Reaches : List ℕ → StateID → Type 0) (m : Dictionary) (deterministic : Bool) (s : Search)
    (from at i next : ℕ) (sid : StateID) (before after : Steps) : Type 0 where
  pub reads : Reaches (read_to (starting_at s from) i) sid
  pub later : ending_from (starting_at s from) (at + 1) ≡ ending_from (starting_at s from) next
  pub pays : (looks more : ℕ) → IsPaidAt m deterministic s from at looks
      → looks + after.looked.value ≡ more + before.looked.value → IsPaidAt m deterministic s from i more
  pub only : OnlyLooked before after
  pub looks : before.looked.value + (i - at) ≤ after.looked.value

-- at first the walk has read nothing
pub read_on-start : (Reaches : List ℕ → StateID → Type 0) (m : Dictionary) (deterministic : Bool) (s : Search)
    (from at : ℕ) (sid : StateID) (steps : Steps) → Reaches (read_to (starting_at s from) at) sid
    → HasWalkedOn Reaches m deterministic s from at at (at + 1) sid steps steps
read_on-start Reaches m deterministic s from at sid steps reads =
    record {
      reads = reads;
      later = refl;
      pays = λ looks more paid e. let same : looks ≡ more = omega arith in
          subst (IsPaidAt m deterministic s from at) same paid;
      only = record { rose = omega arith; scanned = refl; moved = refl };
      looks = omega arith;
    }

-- a state with no matches has no occurrence
pub occurrences_from-empty : (m : Dictionary) (s : Search) (at : ℕ) (ns : List ℕ) → ns ≡ []
    → occurrences_from m s at ns 0 ≡ []
occurrences_from-empty m s at ns none =
    occurrences_from-none m s at ns 0 (counted-past m s.anchored (at - s.start) ns 0 (omega (arith, ap length none)))

-- Where no state on the way has an occurrence, the occurrences that end after one place are those that end after a
-- later one.
ending_from-quiet : {m : Dictionary} {anchored : Anchored} {t : Search} {i : ℕ} (bytes : ℕ) → IsPlace m anchored t i
    → i + 1 + bytes ≤ t.end + 1
    → ((k : ℕ) → i < k → k < i + 1 + bytes → IsQuiet m anchored (read_to t k))
    → ending_from t (i + 1) ≡ ending_from t (i + 1 + bytes)
ending_from-quiet {t} {i} zero is le quiet = let e : i + 1 + 0 ≡ i + 1 = omega arith in
    ap (ending_from t) (sym e)
ending_from-quiet {m} {anchored} {t} {i} (suc bytes) is le quiet =
    let first = ending_from-quiet bytes is (omega arith) (λ k lt below. quiet k lt (omega arith)) in
    let at : ℕ = i + 1 + bytes in
    let g = is.from in
    let here : IsPlace m anchored t at =
    record {
      by = is.by;
      anchor = is.anchor;
      standard = is.standard;
      from = omega arith;
      to = omega arith;
      inside = is.inside;
    } in
    let told = ending_from-split [] here (quiet at (omega arith) (omega arith)).nothing in
    let none = occurrences_from-empty m t at [] refl in
    let next : at + 1 ≡ i + 1 + suc bytes = omega arith in
    first ∙ told ∙ ap (λ xs. xs ++ ending_from t (at + 1)) none ∙ ap (ending_from t) next

-- the walk reads on to the next special state
pub walked_on-further : {Reaches : List ℕ → StateID → Type 0} {b : Built} {anchored : Anchored} {s : Search}
    {from at : ℕ} {cursor next : Cursor} {before mid after : Steps}
    → IsPlace b.dictionary anchored (starting_at s from) cursor.at → s.start ≤ from → cursor.from ≡ from
    → is_anchored anchored ≡ s.anchored
    → IsCursor Reaches s next → next.from ≡ from
    → HasReadOn b anchored s cursor next mid after
    → HasWalkedOn Reaches b.dictionary b.deterministic s from at cursor.at (cursor.at + 1) cursor.sid before mid
    → HasWalkedOn Reaches b.dictionary b.deterministic s from at next.at next.at next.sid before after
walked_on-further {Reaches} {b} {anchored} {s} {from} {cursor} {next} {before} {mid}
    {after} place behind begun free stands same on had =
    let m = b.dictionary in
    let t = starting_at s from in
    let lt = on.further in
    let within = stands.within in
    let ordered = place.from in
    let quiet : (k : ℕ) → cursor.at < k → k < next.at
    → IsQuiet m anchored (read_to t k) = λ k after_it below.
    subst (λ f. IsQuiet m anchored (read_to (starting_at s f) k)) begun (on.quiet k after_it below) in
    let bytes : ℕ = next.at - cursor.at - 1 in
    let to : cursor.at + 1 + bytes ≡ next.at = omega arith in
    let later = ending_from-quiet bytes place (omega arith)
    (λ k after_it below. quiet k after_it (omega arith)) ∙ ap (ending_from t) to in
    let cost : (live live_after : Option ℕ) → IsLive m s.anchored (read_to t cursor.at) live
    → IsLive m s.anchored (read_to t next.at) live_after
    → IsLookups b.deterministic (next.at - cursor.at) (live_len (read_to t cursor.at) live)
    (live_len (read_to t next.at) live_after) mid after =
    subst (λ f. (live live_after : Option ℕ) → IsLive m s.anchored (read_to (starting_at s f) cursor.at) live
    → IsLive m s.anchored (read_to (starting_at s f) next.at) live_after
    → IsLookups b.deterministic (next.at - cursor.at) (live_len (read_to (starting_at s f) cursor.at) live)
    (live_len (read_to (starting_at s f) next.at) live_after) mid after) begun
    (subst (λ a. (live live_after : Option ℕ) → IsLive m a (read_to (starting_at s cursor.from) cursor.at) live
    → IsLive m a (read_to (starting_at s cursor.from) next.at) live_after
    → IsLookups b.deterministic (next.at - cursor.at) (live_len (read_to (starting_at s cursor.from) cursor.at) live)
    (live_len (read_to (starting_at s cursor.from) next.at) live_after) mid after) free on.lookups) in
    let reads : Reaches (read_to t next.at) next.sid =
    subst (λ f. Reaches (read_to (starting_at s f) next.at) next.sid) same stands.reads in
    let live = live-some in
    let live_after = live-some in
    let done = cost live.0 live_after.0 live.1 live_after.1 in
    let some = done.some in
    let rose = had.only.rose in
    record {
      reads = reads;
      later = had.later ∙ later;
      pays = λ looks more paid e.
          let between : ℕ = looks + mid.looked.value - before.looked.value in
          let first : looks + mid.looked.value ≡ between + before.looked.value = omega arith in
          paid-on m b.deterministic s from cursor.at next.at between more mid after behind ordered (omega arith) cost
          (omega arith) (had.pays looks between paid first);
      only = record {
        rose = omega arith;
        scanned = done.scanned ∙ had.only.scanned;
        moved = done.moved ∙ had.only.moved;
      };
      looks = let before_it = had.looks in omega arith;
    }

-- where a state has no occurrence, what is left ends after its place
pub read_on-settled : {Reaches : List ℕ → StateID → Type 0} {m : Dictionary} {deterministic : Bool}
    {anchored : Anchored} {s : Search} {from at i : ℕ} (ns : List ℕ) {sid : StateID} {before after : Steps}
    → IsPlace m anchored (starting_at s from) i → Tells m anchored (read_to (starting_at s from) i) ns
    → occurrences_from m (starting_at s from) i ns 0 ≡ []
    → HasWalkedOn Reaches m deterministic s from at i i sid before after
    → HasWalkedOn Reaches m deterministic s from at i (i + 1) sid before after
read_on-settled {s} {from} {i} ns is tells none read =
    let t = starting_at s from in
    record {
      reads = read.reads;
      later = read.later ∙ ending_from-split ns is tells ∙ ap (λ xs. xs ++ ending_from t (i + 1)) none;
      pays = read.pays;
      only = read.only;
      looks = read.looks;
    }

-- where the search is over, all its looks are paid for
pub pays-over : {Reaches : List ℕ → StateID → Type 0} {m : Dictionary} {deterministic : Bool} {s : Search}
    {from at i next : ℕ} {sid : StateID} {before after : Steps} (r : Shown) → s.start ≤ i → i ≤ s.end
    → HasWalkedOn Reaches m deterministic s from at i next sid before after → r.place ≡ Over
    → (looks more : ℕ) → IsPaidAt m deterministic s from at looks
    → looks + after.looked.value ≡ more + before.looked.value → IsPaidBy m deterministic s (Found r) more
pays-over {m} {deterministic} {s} {from} {i} r g h read over looks more paid e =
    subst (λ p. IsPlacePaid m deterministic s p more) (sym over)
    (paid-to m deterministic s from i s.end more g h (read.pays looks more paid e))

-- where the search stands at the place that it has read to, its looks are paid for
pub pays-at : {Reaches : List ℕ → StateID → Type 0} {m : Dictionary} {deterministic : Bool} {s : Search}
    {from at i next : ℕ} {sid : StateID} (state : StateID) {before after : Steps} (index : ℕ) (r : Shown)
    → HasWalkedOn Reaches m deterministic s from at i next sid before after → r.place ≡ At state from i index
    → (looks more : ℕ) → IsPaidAt m deterministic s from at looks
    → looks + after.looked.value ≡ more + before.looked.value → IsPaidBy m deterministic s (Found r) more
pays-at {m} {deterministic} {s} state index r read is looks more paid e =
    subst (λ p. IsPlacePaid m deterministic s p more) (sym is) (read.pays looks more paid e)

-- where the walk is back at the start, its looks are paid for
pub pays-back : {Reaches : List ℕ → StateID → Type 0} {m : Dictionary} {deterministic : Bool} {s : Search}
    {from at i next : ℕ} {sid : StateID} {before after : Steps} → s.start ≤ i
    → HasWalkedOn Reaches m deterministic s from at i next sid before after
    → (looks more : ℕ) → IsPaidAt m deterministic s from at looks
    → looks + after.looked.value ≡ more + before.looked.value → IsPaidBy m deterministic s (Idle i) more
pays-back {m} {deterministic} {s} {from} {i} g read looks more paid e =
    paid-to m deterministic s from i i more g (omega arith) (read.pays looks more paid e)
