-- No occurrence covers a byte that no pattern has, so a search splits after it, and the standard kind begins anew
-- there.
use Rattle.std.proofs.Common.{◌≡◌, ◌≢◌, ◌⊎◌, inl, inr, ⊎_elim, ℕ, zero, suc, ◌+◌, ◌-◌, ◌<◌, ◌≤◌, false, List, [], ◌∷◌, ◌++◌, length, drop, map, Option, Some, None, IsTrue, Contains, slice_get, slice_index, slice_range, Greater, sym, ap, subst, ◌∙◌, arith, length-append}
use Rattle.std.proofs.lemmas.Bool.{and_parts, false≢true, cases_lt}
use Rattle.std.proofs.lemmas.Option.{same_Some, none-some}
use Rattle.std.proofs.lemmas.List.{get_or-take, get_or-drop, drop-append-le, drop_all}
use Rattle.std.proofs.lemmas.Grind.{get_or_default_zero}
use Rattle.std.proofs.lemmas.List.Elements.{Contains-append_left, Contains-append_right, Contains-append_cases}
use Rattle.ac_input.specs.declared.search.MatchKind.{MatchKind}
use Rattle.ac_input.specs.declared.search.MatchKind.TheVariants.{Standard, LeftmostFirst, LeftmostLongest}
use Rattle.ac_input.specs.Alphabet.Classes.{IsByteOf}
use Rattle.ac_input.specs.Dictionary.{Dictionary, BeginsEntered, IsLive}
use Rattle.ac_input.specs.Laws.LiveLaws.{canonical}
use Rattle.ac_input.specs.Same.{same, same_text}
use Rattle.ac_input.specs.States.{LeadsTo}
use Rattle.ac_input.specs.Occurrence.{Search, Occurrence, Occurs, starting_at}
use Rattle.ac_input.specs.Best.{preference, IsBest}
use Rattle.ac_input.specs.Walk.{Repeats, IsPick, Here, Further, IsWalk}
use Rattle.ac_input.specs.Computed.{walk_after, listing_of}
use Rattle.ac_input.specs.Work.{shortest}
use Rattle.ac_input.specs.Unused.{IsUnused, IsAfterUnused}
use Rattle.ac_input.proofs.lemmas.ClassLemmas.{unknown-ends}
use Rattle.ac_input.proofs.lemmas.LeadsLemmas.{leads-one}
use Rattle.ac_input.proofs.lemmas.LiveLemmas.{alive-end}
use Rattle.ac_input.proofs.lemmas.OrderLemmas.{occurs-end, less-not_greater, earlier-less, same_text-length, slice_range-length}
use Rattle.ac_input.proofs.lemmas.RisingLemmas.{less_by_end, IsRising-append}
use Rattle.ac_input.proofs.lemmas.WalkLemmas.{occurs-earlier, walk_after-walk, walk-computed}
use Rattle.ac_input.proofs.lemmas.ListingLemmas.{listing-computed, listing_of-lists}

-- ---- no occurrence covers an unused byte

-- texts that are the same have the same byte at each place
same_text-byte : (pairing xs ys : List ℕ) (k : ℕ) → k < length xs → IsTrue (same_text pairing xs ys)
    → IsTrue (same pairing (slice_index xs k) (slice_index ys k))
same_text-byte pairing [] ys k within h = absurd (omega arith)
same_text-byte pairing (x ∷ xs) [] k within h = absurd (false≢true h)
same_text-byte pairing (x ∷ xs) (y ∷ ys) zero within h = (and_parts (same pairing x y) (same_text pairing xs ys) h).0
same_text-byte pairing (x ∷ xs) (y ∷ ys) (suc k) within h =
    same_text-byte pairing xs ys k (omega arith) (and_parts (same pairing x y) (same_text pairing xs ys) h).1

-- a byte of a part of a text is a byte of the text
pub index-part : (text : List ℕ) (from to : ℕ) {k at : ℕ} → from + k ≡ at → k < to - from
    → slice_index (slice_range text from to) k ≡ slice_index text at
index-part text from to {k} is within =
    get_or-take (to - from) (drop from text) k 0 within ∙ get_or-drop from text k 0 ∙ ap (slice_index text) is

-- no pattern is shorter than the shortest
pub shortest-le : (ps : List (List ℕ)) (n : ℕ) {p : List ℕ} → slice_get ps n ≡ Some p → shortest ps ≤ length p
shortest-le [] n {p} e = absurd (none-some p e)
shortest-le (q ∷ ps) zero {p} e = omega (arith, ap length (same_Some q p e))
shortest-le (q ∷ ps) (suc n) e = let le = shortest-le ps n e in omega arith

-- where no pattern is empty, no occurrence is
pub occurs-some : {s : Search} {o : Occurrence} → s.end ≤ length s.haystack → 1 ≤ shortest s.patterns → Occurs s o
    → o.start < o.end
occurs-some {s} {o} inside some occurs =
    let end = occurs-end inside occurs in
    let le = shortest-le s.patterns o.pattern end.1 in
    let is : o.end ≡ o.start + length end.0 = end.2 in
    omega arith

-- no occurrence covers a place whose byte is unused
pub unused-uncovered : {s : Search} {o : Occurrence} {at : ℕ} → s.end ≤ length s.haystack
    → IsUnused s (slice_index s.haystack at) → Occurs s o → o.start ≤ at → at < o.end → ⊥
unused-uncovered {s} {o} {at} inside unused occurs from to =
    let w = occurs.within in
    let p : List ℕ = occurs.same.0 in
    let len = same_text-length s.pairing p (slice_range s.haystack o.start o.end) occurs.same.2 in
    let part = slice_range-length s.haystack o.start w.1 (omega arith) in
    let k : ℕ = at - o.start in
    let within : k < length p = omega arith in
    let there : slice_index (slice_range s.haystack o.start o.end) k ≡ slice_index s.haystack at =
    index-part s.haystack o.start o.end (omega arith) (omega arith) in
    let alike : IsTrue (same s.pairing (slice_index p k) (slice_index s.haystack at)) = subst
    (λ byte. IsTrue (same s.pairing (slice_index p k) byte)) there
    (same_text-byte s.pairing p (slice_range s.haystack o.start o.end) k within occurs.same.2) in
    unused o.pattern p (slice_index p k) occurs.same.1 (k, within, get_or_default_zero p k (slice_index p k) within)
    alike

-- the occurrence ends before the unused byte, or begins after it
abbrev pub IsBesides : ℕ → Occurrence → Type 0
IsBesides place o = (o.end < place) ⊎ (place ≤ o.start)

pub unused-besides : {s : Search} {place : ℕ} {o : Occurrence} → s.end ≤ length s.haystack → 1 ≤ shortest s.patterns
    → IsAfterUnused s place → Occurs s o → IsBesides place o
unused-besides {place} {o} inside some after occurs =
    let is : after.0 + 1 ≡ place = after.1 in
    let lt = occurs-some inside some occurs in
    ⊎_elim
    (λ (early : o.start < place). ⊎_elim
    (λ (over : o.end < place). inl over)
    (λ (across : place ≤ o.end). absurd (unused-uncovered inside after.2 occurs (omega arith) (omega arith)))
    (cases_lt o.end place))
    (λ (late : place ≤ o.start). inr late)
    (cases_lt o.start place)

-- ---- what occurs in the parts

-- what occurs in the part before a place occurs in the search
occurs-of_front : (s : Search) {at place : ℕ} {o : Occurrence} → place ≤ s.end
    → Occurs (starting_at (record s { end = place }) at) o → Occurs (starting_at s at) o
occurs-of_front s le occurs =
    let w = occurs.within in
    record { within = (w.0, w.1, omega arith); same = occurs.same; anchor = occurs.anchor }

-- what occurs in the search and ends in the part before a place occurs in that part
occurs-in_front : (s : Search) {at place : ℕ} {o : Occurrence} → o.end ≤ place → Occurs (starting_at s at) o
    → Occurs (starting_at (record s { end = place }) at) o
occurs-in_front s ends occurs =
    let w = occurs.within in
    record { within = (w.0, w.1, ends); same = occurs.same; anchor = occurs.anchor }

-- what begins at a place or later occurs in the search from there on
occurs-in_back : (s : Search) {at place : ℕ} {o : Occurrence} → s.anchored ≡ false → place ≤ o.start
    → Occurs (starting_at s at) o → Occurs (starting_at s place) o
occurs-in_back s free begins occurs =
    let w = occurs.within in
    record { within = (begins, w.1, w.2); same = occurs.same; anchor = λ a. absurd (false≢true (sym free ∙ a)) }

-- what occurs from a place on occurs from an earlier place on
occurs-of_back : (s : Search) {at place : ℕ} {o : Occurrence} → s.anchored ≡ false → at ≤ place
    → Occurs (starting_at s place) o → Occurs (starting_at s at) o
occurs-of_back s free le occurs = occurs-earlier s le (λ a. absurd (false≢true (sym free ∙ a))) occurs

-- ---- the best

-- under any kind, what lies before a place is no less preferred than what begins there or later
front-preferred : (kind : MatchKind) {place : ℕ} (a b : Occurrence) → a.start < place → a.end ≤ place → place ≤ b.start
    → b.start < b.end → preference kind a b ≢ Greater
front-preferred Standard a b starts ends begins some = less-not_greater (less_by_end a b (omega arith))
front-preferred LeftmostFirst a b starts ends begins some =
    less-not_greater (earlier-less LeftmostFirst (λ e. cc) a b (omega arith))
front-preferred LeftmostLongest a b starts ends begins some =
    less-not_greater (earlier-less LeftmostLongest (λ e. cc) a b (omega arith))

-- the best of the part before an unused byte is the best of the whole search
best-of_front : (kind : MatchKind) (s : Search) (at place : ℕ) (o : Occurrence) → s.end ≤ length s.haystack
    → 1 ≤ shortest s.patterns → place ≤ s.end → IsAfterUnused s place
    → IsBest kind (starting_at (record s { end = place }) at) (Some o) → IsBest kind (starting_at s at) (Some o)
best-of_front kind s at place o inside some le after best = (
  occurs-of_front s le best.0,
  λ q occurs.
      let w = best.0.within in
      let lt = occurs-some inside some (occurs-of_front s le best.0) in
      ⊎_elim
      (λ (front : q.end < place). best.1 q (occurs-in_front s (omega arith) occurs))
      (λ (back : place ≤ q.start). front-preferred kind o q (omega arith) w.2 back (occurs-some inside some occurs))
      (unused-besides inside some after occurs),
)

-- where the part before an unused byte has no best, the best is that of the part after it
best-of_back : (kind : MatchKind) (s : Search) {at place : ℕ} (r : Option Occurrence) → s.end ≤ length s.haystack
    → s.anchored ≡ false → 1 ≤ shortest s.patterns → at ≤ place → IsAfterUnused s place
    → IsBest kind (starting_at (record s { end = place }) at) None → IsBest kind (starting_at s place) r
    → IsBest kind (starting_at s at) r
best-of_back kind s {place} None inside free some le after none best = λ o occurs.
    ⊎_elim
    (λ (front : o.end < place). none o (occurs-in_front s (omega arith) occurs))
    (λ (back : place ≤ o.start). best o (occurs-in_back s free back occurs))
    (unused-besides inside some after occurs)
best-of_back kind s {place} (Some b) inside free some le after none best = (
  occurs-of_back s free le best.0,
  λ q occurs. ⊎_elim
      (λ (front : q.end < place). absurd (none q (occurs-in_front s (omega arith) occurs)))
      (λ (back : place ≤ q.start). best.1 q (occurs-in_back s free back occurs))
      (unused-besides inside some after occurs),
)

-- ---- the walk

-- where no pattern is empty, no best repeats a pick
pub best-fresh : (kind : MatchKind) (s : Search) (last : Option ℕ) (r : Option Occurrence) → s.end ≤ length s.haystack
    → 1 ≤ shortest s.patterns → IsBest kind s r → ¬ Repeats last r
best-fresh kind s None r inside some best again = again
best-fresh kind s (Some l) None inside some best again = again
best-fresh kind s (Some l) (Some o) inside some best again = let lt = occurs-some inside some best.0 in
    let e = again.0 in let d = again.1 in omega arith

-- where no pattern is empty, a pick is the best from where the walk stands
pub pick-is_best : {kind : MatchKind} {s : Search} {at : ℕ} {last : Option ℕ} {r : Option Occurrence}
    → s.end ≤ length s.haystack → 1 ≤ shortest s.patterns → IsPick kind s at last r → IsBest kind (starting_at s at) r
pick-is_best inside some (Here best fresh) = best
pick-is_best {kind} {s} {at} {last} inside some (Further b best again next) =
    absurd (best-fresh kind (starting_at s at) last b inside some best again)

-- where no pattern is empty, the best from where the walk stands is the pick, whatever the pick before
pub best-is_pick : {kind : MatchKind} {s : Search} {at : ℕ} {last : Option ℕ} {r : Option Occurrence}
    → s.end ≤ length s.haystack → 1 ≤ shortest s.patterns → IsBest kind (starting_at s at) r → IsPick kind s at last r
best-is_pick {kind} {s} {at} {last} {r} inside some best =
    Here best (best-fresh kind (starting_at s at) last r inside some best)

-- the walk of the part after an unused byte is the walk, where the part before has no pick
walk-of_back : (kind : MatchKind) (s : Search) (at place : ℕ) (last next : Option ℕ) (back : List Occurrence)
    → s.end ≤ length s.haystack → s.anchored ≡ false → 1 ≤ shortest s.patterns → at ≤ place → IsAfterUnused s place
    → IsBest kind (starting_at (record s { end = place }) at) None → IsWalk kind s place next back
    → IsWalk kind s at last back
walk-of_back kind s at place last next [] inside free some le after none walk =
    best-is_pick inside some (best-of_back kind s None inside free some le after none (pick-is_best inside some walk))
walk-of_back kind s at place last next (o ∷ os) inside free some le after none walk = (
  best-is_pick inside some
      (best-of_back kind s (Some o) inside free some le after none (pick-is_best inside some walk.0)),
  walk.1,
)

-- a walk of the part before an unused byte, followed by one of the part after it, is a walk
pub walk-splits : (kind : MatchKind) (s : Search) {at place : ℕ} (last next : Option ℕ) (front back : List Occurrence)
    → s.end ≤ length s.haystack → s.anchored ≡ false → 1 ≤ shortest s.patterns → at ≤ place → place ≤ s.end
    → IsAfterUnused s place
    → IsWalk kind (record s { end = place }) at last front → IsWalk kind s place next back
    → IsWalk kind s at last (front ++ back)
walk-splits kind s {at} {place} last next [] back inside free some le to after walk later =
    walk-of_back kind s at place last next back inside free some le after (pick-is_best (omega arith) some walk) later
walk-splits kind s {at} {place} last next (o ∷ os) back inside free some le to after walk later =
    let best = pick-is_best (omega arith) some walk.0 in
    let w = best.0.within in (
      best-is_pick inside some (best-of_front kind s at place o inside some to after best),
      walk-splits kind s (Some o.end) next os back inside free some w.2 to after walk.1 later,
    )

-- the computed walk splits after an unused byte
pub walk_after-splits : (kind : MatchKind) (s : Search) (at place : ℕ) (last next : Option ℕ)
    → s.end ≤ length s.haystack → s.anchored ≡ false → 1 ≤ shortest s.patterns → at ≤ place → place ≤ s.end
    → IsAfterUnused s place
    → walk_after kind s at last ≡ walk_after kind (record s { end = place }) at last ++ walk_after kind s place next
walk_after-splits kind s at place last next inside free some le to after =
    sym (walk-computed kind s at last inside
    (walk-splits kind s last next (walk_after kind (record s { end = place }) at last) (walk_after kind s place next)
    inside free some le to after
    (walk_after-walk kind (record s { end = place }) at last (omega arith)) (walk_after-walk kind s place next inside)))

-- ---- the overlapping listing

-- the listings of both parts, one after the other, are the listing
pub listing-splits : (s : Search) (place : ℕ) → s.end ≤ length s.haystack → s.anchored ≡ false → 1 ≤ shortest s.patterns
    → s.start ≤ place → place ≤ s.end → IsAfterUnused s place
    → listing_of s ≡ listing_of (record s { end = place }) ++ listing_of (starting_at s place)
listing-splits s place inside free some le to after =
    let fits : place ≤ length s.haystack = omega arith in
    let front = listing_of-lists fits in
    let back = listing_of-lists inside in
    let ends = λ (o : Occurrence) (c : Contains (listing_of (record s { end = place })) o). (front.1 o).0 c in
    let begins = λ (o : Occurrence) (c : Contains (listing_of (starting_at s place)) o). (back.1 o).0 c in
    sym (listing-computed inside (
      IsRising-append (listing_of (record s { end = place })) (listing_of (starting_at s place)) front.0 back.0
          (λ a b a_in b_in. let w = (ends a a_in).within in let v = (begins b b_in).within in
          let lt = occurs-some inside some (begins b b_in) in less_by_end a b (omega arith)),
      λ o. (
        λ c. ⊎_elim
            (λ first. occurs-of_front s to (ends o first))
            (λ second. occurs-of_back s free le (begins o second))
            (Contains-append_cases (listing_of (record s { end = place })) (listing_of (starting_at s place)) o c),
        λ occurs. ⊎_elim
            (λ (early : o.end < place). Contains-append_left (listing_of (record s { end = place }))
            (listing_of (starting_at s place)) o ((front.1 o).1 (occurs-in_front s (omega arith) occurs)))
            (λ (late : place ≤ o.start). Contains-append_right (listing_of (record s { end = place }))
            (listing_of (starting_at s place)) o ((back.1 o).1 (occurs-in_back s free late occurs)))
            (unused-besides inside some after occurs),
      ),
    ))

-- ---- where an unused byte leads

-- under standard, no byte of a text is live just after a byte that stands in no entered pattern
unused-live : (m : Dictionary) (text : List ℕ) (byte : ℕ) → m.kind ≡ Standard → (¬ IsByteOf m byte)
    → IsLive m false (text ++ byte ∷ []) (Some (length (text ++ byte ∷ [])))
unused-live m text byte standard unused = (
  alive-end (inl standard),
  λ other alive. ⊎_elim
      (λ (early : other < length (text ++ byte ∷ [])).
      let long = length-append text (byte ∷ []) in
      let inside : other ≤ length text = omega (arith, early, long) in
      absurd (unknown-ends m (drop other text) byte unused
      (subst (BeginsEntered m) (drop-append-le other text (byte ∷ []) inside) alive.begins)))
      (λ (late : length (text ++ byte ∷ []) ≤ other). late)
      (cases_lt other (length (text ++ byte ∷ []))),
)

-- under standard, a byte that stands in no entered pattern leads back to the start, whatever was read before it
pub unused-starts : (m : Dictionary) (text : List ℕ) (byte : ℕ) {r : Option (List ℕ)} → m.kind ≡ Standard
    → (¬ IsByteOf m byte) → LeadsTo m false (text ++ byte ∷ []) r → r ≡ Some []
unused-starts m text byte {r} standard unused leads =
    let all = text ++ byte ∷ [] in
    let empty : [] ≡ map (canonical m.pairing) (drop (length all) all) =
    sym (ap (map (canonical m.pairing)) (drop_all (length all) all (omega arith))) in
    leads-one m false all r (Some []) leads (length all, unused-live m text byte standard unused, empty)
