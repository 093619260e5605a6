-- Whole words: that they are listed, what settles a match of them, and what masking leaves of them.
use Rattle.std.proofs.Common.{◌≡◌, ◌≢◌, ◌⊎◌, ◌↔◌, inl, inr, ⊎_elim, ℕ, ◌+◌, ◌-◌, ◌<◌, ◌≤◌, Bool, true, false, not, ◌&&◌, List, [], ◌∷◌, ◌++◌, length, take, Option, Some, None, IsTrue, Contains, slice_get, slice_index, ltb, Greater, refl, sym, ap, ap₂, subst, ◌∙◌, arith, append_assoc, length-append}
use Rattle.std.specs.List.{filter}
use Rattle.std.proofs.Math.Seq.{get_or-append_seam}
use Rattle.std.proofs.lemmas.Bool.{and_parts, and_cases, not-true, not-false, false≢true, cases_lt, cases_Bool, ltb-true, lt-ltb}
use Rattle.std.proofs.lemmas.List.{get_or_append_left}
use Rattle.std.proofs.lemmas.Option.{same_Some, none-some}
use Rattle.ac_input.specs.declared.search.MatchKind.{MatchKind}
use Rattle.ac_input.specs.declared.search.MatchKind.TheVariants.{Standard, LeftmostFirst, LeftmostLongest}
use Rattle.ac_input.specs.Occurrence.{Search, Occurrence, Occurs, starting_at}
use Rattle.ac_input.specs.Best.{preference, IsLeast}
use Rattle.ac_input.specs.Walk.{IsPickAmong, Here, Further, IsWalkAmong}
use Rattle.ac_input.specs.Computed.{occurrences, listing_among, listing_of}
use Rattle.ac_input.specs.Dictionary.{Dictionary, whole}
use Rattle.ac_input.specs.Work.{longest}
use Rattle.ac_input.specs.Unused.{IsUnused}
use Rattle.ac_input.specs.Mask.{Covers, IsCoveredAmong, IsFinalBefore, masked_among, in_masked_among}
use Rattle.ac_input.specs.Word.{is_word_byte, is_word_at, is_word_before, is_whole_word, OccursWhole, whole_occurrences, OccursAsked, asked_occurrences}
use Rattle.ac_input.specs.Laws.BeginningLaws.{IsBeginning}
use Rattle.ac_input.specs.Laws.WordLaws.{AreComputed, AreWordsFinalBefore, settles_at, IsSettled}
use Rattle.ac_input.proofs.lemmas.ContainsLemmas.{Contains-head, Contains-tail, Contains-filter, Contains-from_filter}
use Rattle.ac_input.proofs.lemmas.OrderLemmas.{less-not_greater, earlier-less, occurs-end}
use Rattle.ac_input.proofs.lemmas.RisingLemmas.{IsPairwise-filter, IsRising-filter, less_by_end}
use Rattle.ac_input.proofs.lemmas.BestLemmas.{occurrences-occurs, occurs-occurrences}
use Rattle.ac_input.proofs.lemmas.ListingLemmas.{IsEarlier, occurrences-pairwise, listing_of-lists}
use Rattle.ac_input.proofs.lemmas.AmongLemmas.{AreCounted, all-counted, occurs-earlier, among-best_one, among-pick_one, among-pick_unique, among-walk_one, among-listing_one, among-somewhere, among-free}
use Rattle.ac_input.proofs.lemmas.BeginningLemmas.{occurs-longer, longer-occurs}
use Rattle.ac_input.proofs.lemmas.LiveLemmas.{occurs-append, occurs-front, standard-no_later, leftmost-no_later}
use Rattle.ac_input.proofs.lemmas.DeadLemmas.{no_longer-pattern}
use Rattle.ac_input.proofs.lemmas.MaskAmongLemmas.{among-covered_cases, among-masked, among-masked_one, among-uncovered, among-masked_occurs, among-front}
use Rattle.ac_input.proofs.lemmas.MaskLemmas.{no_bytes, unanchored-occurs}

-- ---- what counts is listed

-- the list of the whole words has exactly these
pub whole-counted : AreCounted OccursWhole whole_occurrences
whole-counted =
    record {
      occurs = λ s o h. h.0;
      counts = λ s o c.
          let kept = Contains-from_filter (is_whole_word s.haystack) (occurrences s) c in
          (occurrences-occurs s o kept.0, kept.1);
      listed = λ s o inside h.
          Contains-filter (is_whole_word s.haystack) (occurrences s) (occurs-occurrences s o inside h.0) h.1;
      ordered = λ s. IsPairwise-filter IsEarlier (is_whole_word s.haystack) (occurrences s) (occurrences-pairwise s);
      moved = λ s from o h k. (k, h.1);
    }

-- the list of the occurrences that count has exactly these, whichever are asked for
pub asked-counted : (words : Bool) → AreCounted (OccursAsked words) (asked_occurrences words)
asked-counted true = whole-counted
asked-counted false = all-counted

-- what a list has exactly is computed from it
pub counted-computed : {Is : Search → Occurrence → Type 0} {all : Search → List Occurrence} → AreCounted Is all
    → AreComputed Is all
counted-computed counted =
    record {
      best = λ kind s r inside. among-best_one counted kind s r inside;
      pick = λ kind s at last r inside. among-pick_one counted kind s at last r inside;
      walk = λ kind s at last os inside. among-walk_one counted kind s at last os inside;
      listing = λ s os inside. among-listing_one counted s os inside;
      masked = λ mask s text inside. among-masked_one counted mask s text inside;
    }

-- each pick of a walk is a whole word, from some place on
pub words-occur : (kind : MatchKind) (s : Search) (at : ℕ) (last : Option ℕ) (os : List Occurrence) (o : Occurrence)
    → IsWalkAmong OccursWhole kind s at last os → Contains os o
    → ((from : ℕ) × (at ≤ from) × OccursWhole (starting_at s from) o)
    × (s.anchored ≡ false → OccursWhole (starting_at s at) o)
words-occur kind s at last os o walk c = (
  among-somewhere whole-counted kind s last os walk c,
  λ free. among-free whole-counted kind s at last os o free walk c,
)

-- the listing of the whole words is the overlapping listing, filtered
pub words-filtered : (s : Search) → s.end ≤ length s.haystack
    → listing_among whole_occurrences s ≡ filter (is_whole_word s.haystack) (listing_of s)
words-filtered s inside =
    let word = is_whole_word s.haystack in
    let whole = listing_of-lists {s = s} inside in
    sym ((among-listing_one whole-counted s (filter word (listing_of s)) inside).0 (
      IsRising-filter word (listing_of s) whole.0,
      λ o. (
        λ c. let kept = Contains-from_filter word (listing_of s) c in ((whole.1 o).0 kept.0, kept.1),
        λ h. Contains-filter word (listing_of s) ((whole.1 o).1 h.0) h.1,
      ),
    ))

-- ---- word bytes of a text

-- whether a text has a word byte at one of its places
word_at-within : (text : List ℕ) (at : ℕ) → at < length text → is_word_at text at ≡ is_word_byte (slice_index text at)
word_at-within text at within = ap (λ b. b && is_word_byte (slice_index text at)) (lt-ltb at (length text) within)

-- a word byte of a text stands at one of its places
word_at-parts : (text : List ℕ) (at : ℕ) → is_word_at text at ≡ true
    → (at < length text) × (is_word_byte (slice_index text at) ≡ true)
word_at-parts text at h =
    let parts = and_parts (ltb at (length text)) (is_word_byte (slice_index text at)) h in
    (ltb-true at (length text) parts.0, parts.1)

-- a text has no word byte after its end
word_at-past : (text : List ℕ) (at : ℕ) → length text ≤ at → is_word_at text at ≡ false
word_at-past text at past =
    ⊎_elim
    (λ (yes : is_word_at text at ≡ true). let within = (word_at-parts text at yes).0 in absurd (omega arith))
    (λ (no : is_word_at text at ≡ false). no)
    (cases_Bool (is_word_at text at))

-- what follows a text changes no word byte of it
word_at-append : (text more : List ℕ) (at : ℕ) → at < length text → is_word_at (text ++ more) at ≡ is_word_at text at
word_at-append text more at within =
    word_at-within (text ++ more) at (omega (arith, length-append text more))
    ∙ ap is_word_byte (get_or_append_left text more 0 at within)
    ∙ sym (word_at-within text at within)

-- before a place that isn't the first, a word byte stands at the place before
word_before-at : (text : List ℕ) (place : ℕ) → 0 < place → is_word_before text place ≡ is_word_at text (place - 1)
word_before-at text place past = ap (λ b. b && is_word_at text (place - 1)) (lt-ltb 0 place past)

-- nor does it change one before a place of it
word_before-append : (text more : List ℕ) (place : ℕ) → place ≤ length text
    → is_word_before (text ++ more) place ≡ is_word_before text place
word_before-append text more place within =
    ⊎_elim
    (λ (past : 0 < place). word_before-at (text ++ more) place past
    ∙ word_at-append text more (place - 1) (omega arith) ∙ sym (word_before-at text place past))
    (λ (first : place ≤ 0). let e : place ≡ 0 = omega arith in
    ap (is_word_before (text ++ more)) e ∙ sym (ap (is_word_before text) e))
    (cases_lt 0 place)

-- an occurrence that ends before the end of a text is a whole word, or none, whatever follows
pub word-stays : (text more : List ℕ) (o : Occurrence) → o.start ≤ o.end → o.end < length text
    → is_whole_word (text ++ more) o ≡ is_whole_word text o
word-stays text more o ordered within =
    ap₂ (λ before after. not before && not after) (word_before-append text more o.start (omega arith))
    (word_at-append text more o.end within)

both-waits : (before byte : Bool) → (not before && not byte) ≡ ((not before && not false) && not byte)
both-waits true byte = refl
both-waits false byte = refl

-- an occurrence that ends where a text does stays a whole word exactly if no word byte follows
pub word-waits : (text more : List ℕ) (byte : ℕ) (o : Occurrence) → o.start ≤ o.end → o.end ≡ length text
    → is_whole_word (text ++ byte ∷ more) o ≡ (is_whole_word text o && not (is_word_byte byte))
word-waits text more byte o ordered ends =
    let long = length-append text (byte ∷ more) in
    let next : slice_index (text ++ byte ∷ more) o.end ≡ byte =
    ap (slice_index (text ++ byte ∷ more)) ends ∙ get_or-append_seam text byte more 0 in
    let after : is_word_at (text ++ byte ∷ more) o.end ≡ is_word_byte byte =
    word_at-within (text ++ byte ∷ more) o.end (omega arith) ∙ ap is_word_byte next in
    let none : is_word_at text o.end ≡ false = word_at-past text o.end (omega arith) in
    ap₂ (λ b a. not b && not a) (word_before-append text (byte ∷ more) o.start (omega arith)) after
    ∙ both-waits (is_word_before text o.start) (is_word_byte byte)
    ∙ ap (λ a. (not (is_word_before text o.start) && not a) && not (is_word_byte byte)) (sym none)

-- ---- what settles a match

-- an occurrence is no longer than the longest pattern
pub occurs-reach : {s : Search} {o : Occurrence} → s.end ≤ length s.haystack → Occurs s o
    → o.end ≤ o.start + longest s.patterns
occurs-reach {s} {o} inside h =
    let end = occurs-end inside h in
    let few = no_longer-pattern s.patterns o.pattern end.1 in
    let long = end.2 in
    omega arith

-- a match is settled by its end or by a later byte
settles-no_sooner : (kind : MatchKind) (ps : List (List ℕ)) (o : Occurrence) → o.end ≤ o.start + longest ps
    → o.end ≤ settles_at kind ps o
settles-no_sooner Standard ps o reach = omega arith
settles-no_sooner LeftmostFirst ps o reach = reach
settles-no_sooner LeftmostLongest ps o reach = reach

-- what is no less preferred is settled no later
settles-no_later : (kind : MatchKind) (ps : List (List ℕ)) (a b : Occurrence) → preference kind a b ≢ Greater
    → settles_at kind ps a ≤ settles_at kind ps b
settles-no_later Standard ps a b h = standard-no_later a b h
settles-no_later LeftmostFirst ps a b h = let le = leftmost-no_later LeftmostFirst a b (λ e. cc) h in omega arith
settles-no_later LeftmostLongest ps a b h = let le = leftmost-no_later LeftmostLongest a b (λ e. cc) h in omega arith

-- under a leftmost kind, what ends no sooner than a place that settles a match is no more preferred
leftmost-cases : (kind : MatchKind) (ps : List (List ℕ)) (n : ℕ) (o q : Occurrence) → kind ≢ Standard
    → o.start + longest ps < n → q.end ≤ q.start + longest ps → (q.end < n) ⊎ (preference kind o q ≢ Greater)
leftmost-cases kind ps n o q leftmost settled reach =
    ⊎_elim
    (λ (later : o.start < q.start). inr (less-not_greater (earlier-less kind leftmost o q later)))
    (λ (sooner : q.start ≤ o.start). inl (omega arith))
    (cases_lt o.start q.start)

-- what ends no sooner than the end of a text that settles a match is no more preferred than it
settled-cases : (kind : MatchKind) (ps : List (List ℕ)) (n : ℕ) (o q : Occurrence) → settles_at kind ps o < n
    → q.end ≤ q.start + longest ps → (q.end < n) ⊎ (preference kind o q ≢ Greater)
settled-cases Standard ps n o q settled reach =
    ⊎_elim
    (λ (early : q.end < n). inl early)
    (λ (late : n ≤ q.end). inr (less-not_greater (less_by_end o q (omega arith))))
    (cases_lt q.end n)
settled-cases LeftmostFirst ps n o q settled reach = leftmost-cases LeftmostFirst ps n o q (λ e. cc) settled reach
settled-cases LeftmostLongest ps n o q settled reach = leftmost-cases LeftmostLongest ps n o q (λ e. cc) settled reach

module _ (m : Dictionary) (text more : List ℕ) where
  -- the search of the text, and that of the longer text
  abbrev shorter : Search
  shorter = whole m text false

  abbrev longer_text : Search
  longer_text = whole m (text ++ more) false

  -- a whole word that ends before the end of the text is one of the longer text
  word-longer : (at : ℕ) (o : Occurrence) → o.end < length text → OccursWhole (starting_at shorter at) o
      → OccursWhole (starting_at longer_text at) o
  word-longer at o within h =
      let w = h.0.within in (
        occurs-longer more (omega arith) (omega (arith, length-append text more)) h.0,
        word-stays text more o w.1 within ∙ h.1,
      )

  -- a whole word of the longer text that ends before the end of the text is one of the text
  word-shorter : (at : ℕ) (o : Occurrence) → o.end < length text → OccursWhole (starting_at longer_text at) o
      → OccursWhole (starting_at shorter at) o
  word-shorter at o within h =
      let w = h.0.within in (
        longer-occurs more (omega arith) (omega arith) h.0,
        sym (word-stays text more o w.1 within) ∙ h.1,
      )

  -- a settled match that is the best of the text is the best of the longer text
  best-longer : (at : ℕ) (o : Occurrence) → IsSettled m text o
      → IsLeast m.kind (OccursWhole (starting_at shorter at)) (Some o)
      → IsLeast m.kind (OccursWhole (starting_at longer_text at)) (Some o)
  best-longer at o settled h =
      let reach = occurs-reach {s = starting_at shorter at} (omega arith) h.0.0 in
      let sooner = settles-no_sooner m.kind m.patterns o reach in (
        word-longer at o (omega arith) h.0,
        λ q k. ⊎_elim
            (λ (early : q.end < length text). h.1 q (word-shorter at q early k))
            (λ (fine : preference m.kind o q ≢ Greater). fine)
            (settled-cases m.kind m.patterns (length text) o q settled
            (occurs-reach {s = starting_at longer_text at} (omega arith) k.0)),
      )

  -- a settled match that is the best of the longer text is the best of the text
  best-shorter : (at : ℕ) (o : Occurrence) → IsSettled m text o
      → IsLeast m.kind (OccursWhole (starting_at longer_text at)) (Some o)
      → IsLeast m.kind (OccursWhole (starting_at shorter at)) (Some o)
  best-shorter at o settled h =
      let reach = occurs-reach {s = starting_at longer_text at} (omega arith) h.0.0 in
      let sooner = settles-no_sooner m.kind m.patterns o reach in (
        word-shorter at o (omega arith) h.0,
        λ q k. ⊎_elim
            (λ (early : q.end < length text). h.1 q (word-longer at q early k))
            (λ (fine : preference m.kind o q ≢ Greater). fine)
            (settled-cases m.kind m.patterns (length text) o q settled
            (occurs-reach {s = starting_at shorter at} (omega arith) k.0)),
      )

-- Where settled bests of one unanchored search are those of another, so are settled picks: a best that repeats the last
-- pick is settled if the next one is.
picks-carried : (kind : MatchKind) (ps : List (List ℕ)) (n : ℕ) (x y : Search) → x.anchored ≡ false
    → ((at : ℕ) (o : Occurrence) → settles_at kind ps o < n → IsLeast kind (OccursWhole (starting_at x at)) (Some o)
    → IsLeast kind (OccursWhole (starting_at y at)) (Some o)) → (at : ℕ) (last : Option ℕ) (o : Occurrence)
    → settles_at kind ps o < n → IsPickAmong OccursWhole kind x at last (Some o)
    → IsPickAmong OccursWhole kind y at last (Some o)
picks-carried kind ps n x y free carry at last o settled (Here h fresh) = Here (carry at o settled h) fresh
picks-carried kind ps n x y free carry at None o settled (Further b h again k) = absurd again
picks-carried kind ps n x y free carry at (Some l) o settled (Further None h again k) = absurd again
picks-carried kind ps n x y free carry at (Some l) o settled (Further (Some b) h again k) =
    let here : OccursWhole (starting_at x at) o =
    (occurs-earlier x (omega arith) (λ t. absurd (false≢true (sym free ∙ t))) k.0.0, k.0.1) in
    let le = settles-no_later kind ps b o (h.1 o here) in
    Further (Some b) (carry at b (omega arith) h) again (carry (at + 1) o settled k)

-- a settled match is the next pick of a text exactly where it is that of a longer text
pub settled-pick : (m : Dictionary) (text more : List ℕ) (at : ℕ) (last : Option ℕ) (o : Occurrence)
    → IsSettled m text o
    → IsPickAmong OccursWhole m.kind (whole m text false) at last (Some o)
    ↔ IsPickAmong OccursWhole m.kind (whole m (text ++ more) false) at last (Some o)
settled-pick m text more at last o settled = (
  picks-carried m.kind m.patterns (length text) (whole m text false) (whole m (text ++ more) false) refl
      (best-longer m text more) at last o settled,
  picks-carried m.kind m.patterns (length text) (whole m (text ++ more) false) (whole m text false) refl
      (best-shorter m text more) at last o settled,
)

-- where the next pick of a text isn't settled, no settled match is that of a longer text
pub unsettled-pick : (m : Dictionary) (text more : List ℕ) (at : ℕ) (last : Option ℕ) (r : Option Occurrence)
    (o : Occurrence) → IsPickAmong OccursWhole m.kind (whole m text false) at last r
    → ((p : Occurrence) → r ≡ Some p → ¬ IsSettled m text p)
    → IsPickAmong OccursWhole m.kind (whole m (text ++ more) false) at last (Some o)
    → length text ≤ settles_at m.kind m.patterns o
unsettled-pick m text more at last r o pick none longer =
    ⊎_elim
    (λ (settled : settles_at m.kind m.patterns o < length text).
    let same = among-pick_unique whole-counted (omega arith) pick ((settled-pick m text more at last o settled).1 longer)
    in absurd (none o same settled))
    (λ (waits : length text ≤ settles_at m.kind m.patterns o). waits)
    (cases_lt (settles_at m.kind m.patterns o) (length text))

-- the first picks of a walk, as far as they are settled, are the first picks of a longer text
pub settled-walk : (m : Dictionary) (text more : List ℕ) (at : ℕ) (last : Option ℕ)
    (settled later picks : List Occurrence) → ((o : Occurrence) → Contains settled o → IsSettled m text o)
    → IsWalkAmong OccursWhole m.kind (whole m text false) at last (settled ++ later)
    → IsWalkAmong OccursWhole m.kind (whole m (text ++ more) false) at last picks → IsBeginning settled picks
settled-walk m text more at last [] later picks all g h = (picks, refl)
settled-walk m text more at last (o ∷ os) later [] all g h =
    absurd (none-some o (among-pick_unique whole-counted (omega arith) h
    ((settled-pick m text more at last o (all o (Contains-head os))).0 g.0)))
settled-walk m text more at last (o ∷ os) later (q ∷ qs) all g h =
    let e : q ≡ o = same_Some q o (among-pick_unique whole-counted (omega arith) h.0
    ((settled-pick m text more at last o (all o (Contains-head os))).0 g.0)) in
    let k : IsWalkAmong OccursWhole m.kind (whole m (text ++ more) false) o.end (Some o.end) qs =
    subst (λ x. IsWalkAmong OccursWhole m.kind (whole m (text ++ more) false) x.end (Some x.end) qs) e h.1 in
    let t = settled-walk m text more o.end (Some o.end) os later qs (λ p c. all p (Contains-tail os c)) g.1 k in
    let same : qs ≡ os ++ t.0 = t.1 in
    (t.0, let z : q ∷ qs ≡ o ∷ (os ++ t.0) = cc in z)

-- ---- masking

module _ (mask : ℕ) (s : Search) (inside : s.end ≤ length s.haystack) where
  -- the haystack with its whole words masked
  abbrev hidden : List ℕ
  hidden = masked_among whole_occurrences mask s

  -- a place that had a word byte and has none in the masked haystack was masked, by a mask that is none
  lost-word : (at : ℕ) → is_word_at s.haystack at ≡ true → is_word_at hidden at ≡ false
      → IsCoveredAmong OccursWhole s at × IsTrue (is_word_byte (slice_index s.haystack at))
      × (is_word_byte mask ≡ false)
  lost-word at had has =
      let is = among-masked whole-counted mask s inside in
      let parts = word_at-parts s.haystack at had in
      let within = parts.0 in
      let len = is.len in
      let now : is_word_byte (slice_index hidden at) ≡ false = sym (word_at-within hidden at (omega arith)) ∙ has in
      ⊎_elim
      (λ (yes : IsCoveredAmong OccursWhole s at). (yes, parts.1, sym (ap is_word_byte (is.covered at yes)) ∙ now))
      (λ (no : ¬ IsCoveredAmong OccursWhole s at).
      absurd (false≢true (sym now ∙ ap is_word_byte (is.kept at no) ∙ parts.1)))
      (among-covered_cases whole-counted s at inside)

  -- the same of the place before another one
  lost-before : (place : ℕ) → is_word_before s.haystack place ≡ true → is_word_before hidden place ≡ false
      → (at : ℕ) × (at + 1 ≡ place) × IsCoveredAmong OccursWhole s at
      × IsTrue (is_word_byte (slice_index s.haystack at)) × (is_word_byte mask ≡ false)
  lost-before place had has =
      let parts = and_parts (ltb 0 place) (is_word_at s.haystack (place - 1)) had in
      let past : 0 < place = ltb-true 0 place parts.0 in
      let lost = lost-word (place - 1) parts.1 (sym (word_before-at hidden place past) ∙ has) in
      (place - 1, omega arith, lost.0, lost.1, lost.2)

  -- what isn't a whole word of the haystack, but one of the masked haystack, lies beside a masked word byte
  lost-beside : (o : Occurrence) → is_whole_word s.haystack o ≡ false → is_whole_word hidden o ≡ true
      → (at : ℕ) × ((at + 1 ≡ o.start) ⊎ (at ≡ o.end)) × IsCoveredAmong OccursWhole s at
      × IsTrue (is_word_byte (slice_index s.haystack at)) × (is_word_byte mask ≡ false)
  lost-beside o was is =
      let now = and_parts (not (is_word_before hidden o.start)) (not (is_word_at hidden o.end)) is in
      ⊎_elim
      (λ before. let lost = lost-before o.start (not-false (is_word_before s.haystack o.start) before)
      (not-true (is_word_before hidden o.start) now.0) in (lost.0, inl lost.1, lost.2, lost.3, lost.4))
      (λ after. let lost = lost-word o.end (not-false (is_word_at s.haystack o.end) after)
      (not-true (is_word_at hidden o.end) now.1) in (o.end, inr refl, lost.0, lost.1, lost.2))
      (and_cases (not (is_word_before s.haystack o.start)) (not (is_word_at s.haystack o.end)) was)

-- if no pattern has the mask, a whole word that is left in the masked haystack lies beside a masked word byte
pub word-left : (mask : ℕ) (s : Search) (o : Occurrence) → s.end ≤ length s.haystack → IsUnused s mask
    → o.start < o.end → OccursWhole (in_masked_among whole_occurrences mask s) o
    → (at : ℕ) × ((at + 1 ≡ o.start) ⊎ (at ≡ o.end)) × IsCoveredAmong OccursWhole s at
    × IsTrue (is_word_byte (slice_index s.haystack at)) × (is_word_byte mask ≡ false)
word-left mask s o inside unused bytes h =
    let there : Occurs s o = among-masked_occurs whole-counted mask s o inside unused h.0 in
    let here : Covers o o.start = (omega arith, bytes) in
    ⊎_elim
    (λ (word : is_whole_word s.haystack o ≡ true).
    absurd (among-uncovered whole-counted mask s o inside unused h.0 o.start here (o, (there, word), here)))
    (λ (none : is_whole_word s.haystack o ≡ false). lost-beside mask s inside o none h.1)
    (cases_Bool (is_whole_word s.haystack o))

-- if the mask is a word byte that no pattern has, only empty patterns are whole words of the masked haystack
pub no-word_left : (mask : ℕ) (s : Search) (o : Occurrence) → s.end ≤ length s.haystack → IsUnused s mask
    → IsTrue (is_word_byte mask) → OccursWhole (in_masked_among whole_occurrences mask s) o
    → slice_get s.patterns o.pattern ≡ Some []
no-word_left mask s o inside unused word h =
    let is = among-masked whole-counted mask s inside in
    let w = h.0.within in
    let end = occurs-end {s = in_masked_among whole_occurrences mask s} (omega (arith, is.len)) h.0 in
    let long = end.2 in
    let ends : o.end ≤ o.start = ⊎_elim
    (λ (bytes : o.start < o.end). absurd (false≢true (sym (word-left mask s o inside unused bytes h).4 ∙ word)))
    (λ (none : o.end ≤ o.start). none)
    (cases_lt o.start o.end) in
    end.1 ∙ ap Some (no_bytes end.0 (omega arith))

-- before a place after which as many bytes follow as the longest pattern has, the words of a text are final
pub words-final_before_last : (m : Dictionary) (text : List ℕ) (place : ℕ) → place + longest m.patterns ≤ length text
    → AreWordsFinalBefore m text place
words-final_before_last m text place far = (
  omega arith,
  λ more o h before.
      let reach = occurs-reach {s = whole m (text ++ more) false} (omega arith) h in
      omega arith,
)

-- one byte more makes the words final where the text is
pub words-final_after_byte : (m : Dictionary) (text : List ℕ) (byte place : ℕ) → IsFinalBefore m text place
    → AreWordsFinalBefore m (text ++ byte ∷ []) place
words-final_after_byte m text byte place final =
    let long = length-append text (byte ∷ []) in
    let within = final.0 in (
      omega arith,
      λ more o h before.
          let same : (text ++ byte ∷ []) ++ more ≡ text ++ byte ∷ more = append_assoc text (byte ∷ []) more in
          let ends = final.1 (byte ∷ more) o (subst (λ x. Occurs (whole m x false) o) same h) before in
          omega arith,
    )

-- where the words of a text are final, what covers a place covers it however the text goes on
words-cover : (m : Dictionary) (text more : List ℕ) (anchored : Bool) (place at : ℕ)
    → AreWordsFinalBefore m text place → at < place
    → IsCoveredAmong OccursWhole (whole m (text ++ more) anchored) at
    ↔ IsCoveredAmong OccursWhole (whole m text anchored) at
words-cover m text more anchored place at final before = (
  λ h.
      let o = h.0 in
      let c = h.2 in
      let w = h.1.0.within in
      let ends = final.1 more o (unanchored-occurs m (text ++ more) anchored o h.1.0) (omega arith) in
      (o, (occurs-front m more (omega arith) h.1.0, sym (word-stays text more o w.1 ends) ∙ h.1.1), c),
  λ h.
      let o = h.0 in
      let c = h.2 in
      let w = h.1.0.within in
      let longer = occurs-append m more h.1.0 in
      let ends = final.1 more o (unanchored-occurs m (text ++ more) anchored o longer) (omega arith) in
      (o, (longer, word-stays text more o w.1 ends ∙ h.1.1), c),
)

-- where the words of a text are final before a place, the masked text before it stays
pub word-mask_final : (mask : ℕ) (m : Dictionary) (text more : List ℕ) (anchored : Bool) (place : ℕ)
    → AreWordsFinalBefore m text place
    → take place (masked_among whole_occurrences mask (whole m (text ++ more) anchored))
    ≡ take place (masked_among whole_occurrences mask (whole m text anchored))
word-mask_final mask m text more anchored place final =
    let within = final.0 in
    among-front whole-counted mask (whole m (text ++ more) anchored) (whole m text anchored) place (omega arith)
    (omega arith) (omega (arith, length-append text more)) within
    (λ at before. get_or_append_left text more 0 at (omega arith))
    (λ at before. words-cover m text more anchored place at final before)
