-- What an overlapping search has to show: the matches of a state that count, and the occurrences that end at a place or
-- later.
use Rattle.std.proofs.Common.{◌≡◌, ◌↔◌, inl, ⊎_elim, ℕ, zero, suc, ◌+◌, ◌-◌, ◌<◌, ◌≤◌, Bool, true, false, cond, List, [], ◌∷◌, ◌++◌, length, map, drop, get_or, Some, None, slice_get, slice_range, leb, sym, ap, subst, refl, ◌∙◌, arith}
use Rattle.std.specs.List.{Contains, filter}
use Rattle.std.proofs.lemmas.Bool.{false≢true, cases_lt, leb-true, le-leb}
use Rattle.std.proofs.lemmas.Option.{get_or_from_slice_get}
use Rattle.std.proofs.Math.ListN.{drop_of_length-le}
use Rattle.std.proofs.lemmas.List.Elements.{Contains-append_left, Contains-append_right, Contains-append_cases}
use Rattle.ac_input.specs.declared.search.MatchKind.TheVariants.{Standard}
use Rattle.ac_input.specs.declared.search.Anchored.{Anchored}
use Rattle.ac_input.specs.declared.search.Anchored.TheVariants.{No, Yes}
use Rattle.ac_input.specs.Number.{StateID}
use Rattle.ac_input.specs.Occurrence.{Search, Occurrence, Occurs}
use Rattle.ac_input.specs.Computed.{listing_of}
use Rattle.ac_input.specs.Input.{Asked, is_anchored, search_of}
use Rattle.ac_input.specs.Listing.{IsRising, ListsAll}
use Rattle.ac_input.specs.Laws.LiveLaws.{shifted}
use Rattle.ac_input.specs.Dictionary.{Dictionary, IsEntered, whole, IsLive}
use Rattle.ac_input.specs.Tells.{ending, Tells, TellsUnanchored, ending_at}
use Rattle.ac_input.proofs.lemmas.ContainsLemmas.{Contains-nil, Contains-head, Contains-tail, Contains-filter, Contains-from_filter}
use Rattle.ac_input.proofs.lemmas.OrderLemmas.{occurrence_from_parts, slice_range-length, occurs-end}
use Rattle.ac_input.proofs.lemmas.RisingLemmas.{less_by_end, IsRising-filter, IsRising-append}
use Rattle.ac_input.proofs.lemmas.ListingLemmas.{ListsAll-unique, listing_of-lists}
use Rattle.ac_input.proofs.lemmas.LiveLemmas.{entered-begins, dead-best}
use Rattle.ac_input.proofs.lemmas.ShiftLemmas.{preference-shifted, back_by}
use Rattle.ac_input.proofs.lemmas.SpanLemmas.{whole-occurs_in_span, occurs-in_whole_of_span, IsSearchBy}
use Rattle.ac_input.proofs.lemmas.StateLemmas.{standard-entered}
use Rattle.ac_automaton.specs.declared.in_memory.find.cursor.Cursor.{Cursor}
use Rattle.ac_automaton.specs.InMemory.Overlapping.{ending_from, occurrences_from}
use Rattle.ac_automaton.specs.InMemory.Find.Cursor.{read_to, walked, IsCursor, counts, counted}
use Rattle.ac_automaton.proofs.lemmas.CursorLemmas.{slice_range-split}
use Rattle.ac_input.proofs.lemmas.StateListLemmas.{Contains-from_map, Contains-map}
use Rattle.ac_automaton.proofs.in_memory.find.TakenLemmas.{drop-at}

-- ---- matches

-- one step of a filter that keeps its element, and of one that doesn't
cond-kept : (b : Bool) (x : ℕ) (xs : List ℕ) → b ≡ true → cond b (x ∷ xs) xs ≡ x ∷ xs
cond-kept true x xs e = refl
cond-kept false x xs e = absurd (false≢true e)

cond-left_out : (b : Bool) (x : ℕ) (xs : List ℕ) → b ≡ false → cond b (x ∷ xs) xs ≡ xs
cond-left_out true x xs e = absurd (false≢true (sym e))
cond-left_out false x xs e = refl

-- an entry that counts is the next one
pub counted-here : (m : Dictionary) (anchored : Bool) (read : ℕ) (ns : List ℕ) (index n : ℕ)
    → slice_get ns index ≡ Some n → counts m anchored read n ≡ true
    → counted m anchored read (drop index ns) ≡ n ∷ counted m anchored read (drop (index + 1) ns)
counted-here m anchored read ns index n is this =
    ap (filter (counts m anchored read)) (drop-at ns index n is)
    ∙ cond-kept (counts m anchored read n) n (counted m anchored read (drop (index + 1) ns)) this

-- an entry that doesn't count is passed over
pub counted-skip : (m : Dictionary) (anchored : Bool) (read : ℕ) (ns : List ℕ) (index n : ℕ)
    → slice_get ns index ≡ Some n → counts m anchored read n ≡ false
    → counted m anchored read (drop index ns) ≡ counted m anchored read (drop (index + 1) ns)
counted-skip m anchored read ns index n is this =
    ap (filter (counts m anchored read)) (drop-at ns index n is)
    ∙ cond-left_out (counts m anchored read n) n (counted m anchored read (drop (index + 1) ns)) this

-- after the last entry none counts
pub counted-past : (m : Dictionary) (anchored : Bool) (read : ℕ) (ns : List ℕ) (index : ℕ) → length ns ≤ index
    → counted m anchored read (drop index ns) ≡ []
counted-past m anchored read ns index past = ap (filter (counts m anchored read)) (drop_of_length-le ns past)

-- a list that can't be nonempty is empty
pub nil_or_not : (ns : List ℕ) → ((ns ≡ [] → ⊥) → ⊥) → ns ≡ []
nil_or_not [] h = refl
nil_or_not (n ∷ ns) h = absurd (h (λ e. cc))

-- an element of a list without its front is an element of the list
Contains-from_drop : (ns : List ℕ) (index n : ℕ) → Contains (drop index ns) n → Contains ns n
Contains-from_drop [] zero n c = c
Contains-from_drop [] (suc index) n c = c
Contains-from_drop (x ∷ xs) zero n c = c
Contains-from_drop (x ∷ xs) (suc index) n c = Contains-tail xs (Contains-from_drop xs index n c)

-- an entry that counts from an index on counts in the whole list
counted-whole : (m : Dictionary) (anchored : Bool) (read : ℕ) (ns : List ℕ) (index n : ℕ)
    → Contains (counted m anchored read (drop index ns)) n → Contains (counted m anchored read (drop 0 ns)) n
counted-whole m anchored read ns index n c =
    let kept = Contains-from_filter (counts m anchored read) (drop index ns) c in
    Contains-filter (counts m anchored read) ns (Contains-from_drop ns index n kept.0) kept.1

-- ---- lists of occurrences

-- a rising list stays rising when it is shifted
IsRising-shifted : (n : ℕ) (os : List Occurrence) → IsRising os → IsRising (map (shifted n) os)
IsRising-shifted n [] h = tt
IsRising-shifted n (o ∷ []) h = tt
IsRising-shifted n (o ∷ q ∷ os) h = (preference-shifted Standard n o q ∙ h.0, IsRising-shifted n (q ∷ os) h.1)

-- A list of all occurrences with a property, shifted, lists all occurrences with the shifted property.
ListsAll-shifted : (n : ℕ) (P Q : Occurrence → Type 0) (os : List Occurrence)
    → ((o : Occurrence) → P o → Q (shifted n o))
    → ((o : Occurrence) → Q o → (inner : Occurrence) × P inner × (o ≡ shifted n inner)) → ListsAll P os
    → ListsAll Q (map (shifted n) os)
ListsAll-shifted n P Q os f g h = (
  IsRising-shifted n os h.0,
  λ o. (
    λ c. let inner = Contains-from_map os c in subst Q inner.2 (f inner.0 ((h.1 inner.0).0 inner.1)),
    λ q. let inner = g o q in
        subst (Contains (map (shifted n) os)) (sym inner.2) (Contains-map (shifted n) os ((h.1 inner.0).1 inner.1)),
  ),
)

-- a list of all occurrences with a property lists those with an equivalent property
pub ListsAll-like : (P Q : Occurrence → Type 0) (os : List Occurrence) → ((o : Occurrence) → P o ↔ Q o) → ListsAll P os
    → ListsAll Q os
ListsAll-like P Q os like h = (h.0, λ o. (λ c. (like o).0 ((h.1 o).0 c), λ q. (h.1 o).1 ((like o).1 q)))

-- a filter lists the occurrences that pass its test
ListsAll-filter : (P : Occurrence → Type 0) (p : Occurrence → Bool) (os : List Occurrence) → ListsAll P os
    → ListsAll (λ o. P o × (p o ≡ true)) (filter p os)
ListsAll-filter P p os h = (
  IsRising-filter p os h.0,
  λ o. (
    λ c. let kept = Contains-from_filter p os c in ((h.1 o).0 kept.0, kept.1),
    λ q. Contains-filter p os ((h.1 o).1 q.0) q.1,
  ),
)

-- ---- what ends from a place on

-- the part of the listing that ends at a place or later lists every occurrence that ends there or later
pub ending_from-lists : (s : Search) (at : ℕ) → s.end ≤ length s.haystack
    → ListsAll (λ o. Occurs s o × (at ≤ o.end)) (ending_from s at)
ending_from-lists s at inside =
    ListsAll-like (λ o. Occurs s o × (leb at o.end ≡ true)) (λ o. Occurs s o × (at ≤ o.end)) (ending_from s at)
    (λ o. (λ h. (h.0, leb-true at o.end h.1), λ h. (h.0, le-leb at o.end h.1)))
    (ListsAll-filter (Occurs s) (λ o. leb at o.end) (listing_of s) (listing_of-lists inside))

-- the part of the listing that ends at the span's start or later is the whole listing
pub ending_from-start : (s : Search) → s.end ≤ length s.haystack → ending_from s s.start ≡ listing_of s
ending_from-start s inside =
    let part = ending_from-lists s s.start inside in
    ListsAll-unique
    (ListsAll-like (λ o. Occurs s o × (s.start ≤ o.end)) (Occurs s) (ending_from s s.start)
    (λ o. (λ h. h.0, λ h. let w = h.within in (h, omega arith))) part)
    (listing_of-lists inside)

-- where no occurrence ends at a place or later, that part of the listing is empty
ending_from-none : (s : Search) (at : ℕ) → s.end ≤ length s.haystack → ((o : Occurrence) → Occurs s o → at ≤ o.end → ⊥)
    → ending_from s at ≡ []
ending_from-none s at inside none =
    ListsAll-unique (ending_from-lists s at inside)
    (tt, λ o. (λ c. absurd (Contains-nil c), λ h. absurd (none o h.0 h.1)))

-- nothing ends after the span
pub ending_from-end : (s : Search) (at : ℕ) → s.end ≤ length s.haystack → s.end < at → ending_from s at ≡ []
ending_from-end s at inside past = ending_from-none s at inside (λ o h le. let w = h.within in omega arith)

-- ---- the text that was read

-- the text read is as long as the bytes between the two places
pub read_to-length : (s : Search) (at : ℕ) → s.start ≤ at → at ≤ s.end → s.end ≤ length s.haystack
    → length (read_to s at) ≡ at - s.start
read_to-length s at g h inside = slice_range-length s.haystack s.start g (omega arith)

-- ---- the occurrences of a state

-- where every entry counts, a filter keeps all
filter-all : (ns : List ℕ) → filter (λ (n : ℕ). true) ns ≡ ns
filter-all [] = refl
filter-all (n ∷ ns) = ap (λ rest. n ∷ rest) (filter-all ns)

-- Under the standard kind, the matches that count are the patterns in which the text ends, in order.
tells-lists : (m : Dictionary) (anchored : Anchored) (text ns : List ℕ) → m.kind ≡ Standard → Tells m anchored text ns
    → ListsAll (λ o. Occurs (whole m text (is_anchored anchored)) o × (o.end ≡ length text))
    (map (ending m text) (filter (counts m (is_anchored anchored) (length text)) ns))
tells-lists m No text ns standard h =
    let told : ListsAll (λ o. Occurs (whole m text false) o × (o.end ≡ length text)) (map (ending m text) ns) =
    subst (λ kind. TellsUnanchored kind m text ns) standard h in
    subst (λ xs. ListsAll (λ o. Occurs (whole m text false) o × (o.end ≡ length text)) (map (ending m text) xs))
    (sym (filter-all ns)) told
tells-lists m Yes text ns standard h =
    ListsAll-like (λ o. Occurs (whole m text true) o × (o.end ≡ length text) × ((p : List ℕ) × IsEntered m o.pattern p))
    (λ o. Occurs (whole m text true) o × (o.end ≡ length text))
    (map (ending m text) (filter (counts m true (length text)) ns))
    (λ o. (λ k. (k.0, k.1), λ k. (k.0, k.1, (k.0.same.0, standard-entered m standard k.0.same.1))))
    h

-- What a lemma about a place needs: the dictionary's search lies in the haystack, and the place lies in the span.
pub record IsPlace (m : Dictionary) (anchored : Anchored) (s : Search) (at : ℕ) : Type 0 where
  pub by : IsSearchBy m s
  pub anchor : s.anchored ≡ is_anchored anchored
  pub standard : m.kind ≡ Standard
  pub from : s.start ≤ at
  pub to : at ≤ s.end
  pub inside : s.end ≤ length s.haystack

-- the place where a walk's cursor stands meets these conditions
pub place_of-cursor : {Reaches : List ℕ → StateID → Type 0} (m : Dictionary) (asked : Asked) {cursor : Cursor}
    → m.kind ≡ Standard → IsCursor Reaches (search_of m asked.anchored asked.haystack asked.span) cursor
    → IsPlace m asked.anchored (walked (search_of m asked.anchored asked.haystack asked.span) cursor) cursor.at
place_of-cursor m asked standard h =
    record { by = (refl, refl); anchor = refl; standard = standard; from = h.ordered; to = h.within; inside = h.inside }

-- the occurrences of a state at a place are all that end there
pub told-lists : {m : Dictionary} {anchored : Anchored} {s : Search} {at : ℕ} (ns : List ℕ) → IsPlace m anchored s at
    → Tells m anchored (read_to s at) ns → ListsAll (λ o. Occurs s o × (o.end ≡ at)) (occurrences_from m s at ns 0)
told-lists {m} {anchored} {s} {at} ns is h =
    let w = read_to s at in
    let long : length w ≡ at - s.start = read_to-length s at is.from is.to is.inside in
    let told = tells-lists m anchored w ns is.standard h in
    let listed =
    subst (λ read. ListsAll (λ o. Occurs (whole m w (is_anchored anchored)) o × (o.end ≡ length w))
    (map (ending m w) (filter (counts m (is_anchored anchored) read) ns))) long told in
    let inner : ListsAll (λ o. Occurs (whole m w s.anchored) o × (o.end ≡ length w))
    (map (ending m w) (counted m s.anchored (at - s.start) (drop 0 ns))) =
    subst (λ b. ListsAll (λ o. Occurs (whole m w b) o × (o.end ≡ length w))
    (map (ending m w) (filter (counts m b (at - s.start)) ns))) (sym is.anchor) listed in
    ListsAll-shifted s.start (λ o. Occurs (whole m w s.anchored) o × (o.end ≡ length w))
    (λ o. Occurs s o × (o.end ≡ at)) (map (ending m w) (counted m s.anchored (at - s.start) (drop 0 ns)))
    (λ o k. let there = whole-occurs_in_span m is.by is.from is.to is.inside k.0 in
    (there.0, let e = k.1 in let g = is.from in omega arith))
    (λ o k.
    let there = occurs-in_whole_of_span m is.by is.from is.to is.inside k.0 (omega arith) in
    let r : (inner : Occurrence) × (Occurs (whole m w s.anchored) inner × (inner.end ≡ length w))
    × (o ≡ shifted s.start inner) = (back_by s.start o, (there.0, let e = k.1 in omega arith), there.1) in
    r)
    inner

-- The listing from a place is the occurrences of the state there, and then those that end later.
pub ending_from-split : {m : Dictionary} {anchored : Anchored} {s : Search} {at : ℕ} (ns : List ℕ)
    → IsPlace m anchored s at → Tells m anchored (read_to s at) ns
    → ending_from s at ≡ occurrences_from m s at ns 0 ++ ending_from s (at + 1)
ending_from-split {m} {s} {at} ns is h =
    let told = told-lists ns is h in
    let later = ending_from-lists s (at + 1) is.inside in
    ListsAll-unique (ending_from-lists s at is.inside) (
      IsRising-append (occurrences_from m s at ns 0) (ending_from s (at + 1)) told.0 later.0
          (λ a b here there. let e = ((told.1 a).0 here).1 in let l = ((later.1 b).0 there).1 in
          less_by_end a b (omega arith)),
      λ o. (
        λ c. ⊎_elim
            (λ here. let k = (told.1 o).0 here in (k.0, let e = k.1 in omega arith))
            (λ there. let k = (later.1 o).0 there in (k.0, let l = k.1 in omega arith))
            (Contains-append_cases (occurrences_from m s at ns 0) (ending_from s (at + 1)) o c),
        λ k. ⊎_elim
            (λ (past : at < o.end). Contains-append_right (occurrences_from m s at ns 0) (ending_from s (at + 1)) o
            ((later.1 o).1 (k.0, omega arith)))
            (λ (le : o.end ≤ at). Contains-append_left (occurrences_from m s at ns 0) (ending_from s (at + 1)) o
            ((told.1 o).1 (k.0, let l = k.1 in omega arith)))
            (cases_lt at o.end),
      ),
    )

-- Under the standard kind no occurrence ends at the end of a dead text, or after it.
dead-over : (m : Dictionary) (anchored : Bool) (text more : List ℕ) {o : Occurrence} → m.kind ≡ Standard
    → IsLive m anchored text None → Occurs (whole m (text ++ more) anchored) o → length text ≤ o.end → ⊥
dead-over m true text more {o} standard dead h past =
    let first : o.start ≡ 0 = h.anchor refl in
    let inside : o.start ≤ length text = omega arith in
    dead o.start (record {
      within = inside;
      begins = entered-begins text more h (standard-entered m standard h.same.1) inside past;
      anchor = λ _. first;
      no_later = inl refl;
    })
dead-over m false text more standard dead h past = (dead-best dead).0 standard

-- where the text read is dead, no occurrence ends there or later
pub ending_from-dead : {m : Dictionary} {anchored : Anchored} {s : Search} {at : ℕ} → IsPlace m anchored s at
    → IsLive m (is_anchored anchored) (read_to s at) None → ending_from s at ≡ []
ending_from-dead {m} {s} {at} is dead =
    let g = is.from in
    let l = is.to in
    let here : IsLive m s.anchored (read_to s at) None =
    subst (λ b. IsLive m b (read_to s at) None) (sym is.anchor) dead in
    let long : length (read_to s at) ≡ at - s.start = read_to-length s at g l is.inside in
    let whole_text : read_to s s.end ≡ read_to s at ++ slice_range s.haystack at s.end =
    slice_range-split s.haystack s.start at s.end g l in
    ending_from-none s at is.inside (λ o h past.
    let there = occurs-in_whole_of_span m is.by (omega arith) (omega arith) is.inside h h.within.2 in
    let occurs : Occurs (whole m (read_to s at ++ slice_range s.haystack at s.end) s.anchored) (back_by s.start o) =
    subst (λ text. Occurs (whole m text s.anchored) (back_by s.start o)) whole_text there.0 in
    dead-over m s.anchored (read_to s at) (slice_range s.haystack at s.end) is.standard here occurs
    (omega arith))

-- an entry that counts is no longer than what was read, and lies at the end of it
pub entry-lies : {m : Dictionary} {anchored : Anchored} {s : Search} {at : ℕ} (ns : List ℕ) (index n : ℕ)
    → IsPlace m anchored s at → Tells m anchored (read_to s at) ns
    → Contains (counted m s.anchored (at - s.start) (drop index ns)) n
    → (length (get_or m.patterns n []) ≤ at - s.start)
    × (shifted s.start (ending m (read_to s at) n) ≡ ending_at m at n)
entry-lies {m} {s} {at} ns index n is h c =
    let g = is.from in
    let w = read_to s at in
    let long : length w ≡ at - s.start = read_to-length s at g is.to is.inside in
    let here = counted-whole m s.anchored (at - s.start) ns index n c in
    let told = Contains-map (shifted s.start) (map (ending m w) (counted m s.anchored (at - s.start) (drop 0 ns)))
    (Contains-map (ending m w) (counted m s.anchored (at - s.start) (drop 0 ns)) here) in
    let occurs : Occurs s (shifted s.start (ending m w n)) =
    (((told-lists ns is h).1 (shifted s.start (ending m w n))).0 told).0 in
    let end = occurs-end is.inside occurs in
    let pattern : slice_get m.patterns n ≡ Some end.0 = subst (λ ps. slice_get ps n ≡ Some end.0) is.by.0 end.1 in
    let same : get_or m.patterns n [] ≡ end.0 = get_or_from_slice_get m.patterns n end.0 [] pattern in
    let k : length (get_or m.patterns n []) ≡ length end.0 = ap length same in
    let e : s.start + length w ≡ s.start + (length w - length (get_or m.patterns n [])) + length end.0 = end.2 in (
      omega arith,
      occurrence_from_parts refl (omega arith) (omega arith),
    )

-- an entry that counts gives the first of the state's occurrences from its index on
pub occurrences_from-entry : {m : Dictionary} {anchored : Anchored} {s : Search} {at : ℕ} (ns : List ℕ)
    (index n next : ℕ) → IsPlace m anchored s at → Tells m anchored (read_to s at) ns
    → counted m s.anchored (at - s.start) (drop index ns) ≡ n ∷ counted m s.anchored (at - s.start) (drop next ns)
    → (length (get_or m.patterns n []) ≤ at - s.start)
    × (occurrences_from m s at ns index ≡ ending_at m at n ∷ occurrences_from m s at ns next)
occurrences_from-entry {m} {s} {at} ns index n next is h e =
    let c = subst (λ ns'. Contains ns' n) (sym e)
    (Contains-head (counted m s.anchored (at - s.start) (drop next ns))) in
    let lies = entry-lies ns index n is h c in (
      lies.0,
      ap (λ xs. map (shifted s.start) (map (ending m (read_to s at)) xs)) e
          ∙ ap (λ o. o ∷ occurrences_from m s at ns next) lies.1,
    )

-- where no entry counts from an index on, the state has no occurrence
pub occurrences_from-none : (m : Dictionary) (s : Search) (at : ℕ) (ns : List ℕ) (index : ℕ)
    → counted m s.anchored (at - s.start) (drop index ns) ≡ [] → occurrences_from m s at ns index ≡ []
occurrences_from-none m s at ns index e = ap (λ xs. map (shifted s.start) (map (ending m (read_to s at)) xs)) e
