-- Which bytes a walk that masks whole words has masked: the longest word at each place, and none where no pattern matches.
use Rattle.std.proofs.Common.{◌≡◌, ◌⊎◌, inl, inr, ⊎_elim, ℕ, zero, suc, ◌+◌, ◌-◌, ◌<◌, ◌≤◌, true, false, IsTrue, List, [], ◌∷◌, ◌++◌, length, take, drop, map, Some, slice_get, slice_index, slice_range, Less, Greater, refl, sym, ap, subst, ◌∙◌, arith, length-drop}
use Rattle.std.specs.List.{Contains}
use Rattle.std.proofs.lemmas.Bool.{cases_lt, false≢true}
use Rattle.std.proofs.lemmas.List.{get_or-drop}
use Rattle.std.proofs.lemmas.List.Elements.{Contains-get_or}
use Rattle.std.proofs.lemmas.Option.{get_or_from_slice_get, slice_get_within}
use Rattle.ac_input.specs.Number.{StateID}
use Rattle.ac_input.specs.declared.search.Anchored.TheVariants.{No}
use Rattle.ac_input.specs.declared.search.MatchKind.TheVariants.{Standard}
use Rattle.ac_input.specs.Best.{preference}
use Rattle.ac_input.specs.Dictionary.{Dictionary, whole}
use Rattle.ac_input.specs.Listing.{IsRising}
use Rattle.ac_input.specs.Mask.{IsCoveredAmong}
use Rattle.ac_input.specs.Occurrence.{Occurrence, Occurs}
use Rattle.ac_input.specs.Tells.{Tells, TellsUnanchored, ending, ending_at}
use Rattle.ac_input.specs.Word.{OccursWhole, is_whole_word}
use Rattle.ac_input.specs.Work.{longest}
use Rattle.ac_input.proofs.lemmas.MaskAmongLemmas.{among-masked_one}
use Rattle.ac_input.proofs.lemmas.OrderLemmas.{preference-less, slice_range-length}
use Rattle.ac_input.proofs.lemmas.RisingLemmas.{IsRising-head, IsRising-tail, less_by_start}
use Rattle.ac_input.proofs.lemmas.StateListLemmas.{Contains-map}
use Rattle.ac_input.proofs.lemmas.WordLemmas.{occurs-reach, whole-counted}
use Rattle.ac_automaton.specs.Automaton.{AdvancesToMatch, Built}
use Rattle.ac_automaton.specs.Masking.{masked_between}
use Rattle.ac_automaton.specs.Masking.Words.{EndsBefore, HasMaskedWords, IsLongestWord, IsMaskPlace, PassesQuietly, ShowsMasked, masked_words_in}
use Rattle.ac_automaton.specs.Words.{IsWindowOf}
use Rattle.ac_automaton.specs.declared.automaton.Advance.{Advance}
use Rattle.ac_automaton.specs.declared.masking.words.MaskPlace.{MaskPlace}
use Rattle.ac_automaton.specs.declared.words.Window.{Window}
use Rattle.ac_automaton.proofs.automaton.PassLemmas.{matching-some}
use Rattle.ac_automaton.proofs.lemmas.CursorLemmas.{list-none, part-front}
use Rattle.ac_automaton.proofs.masking.BetweenLemmas.{between-after, between-before, between-in, between-length}
use Rattle.ac_automaton.proofs.words.FinalLemmas.{window-end}
use Rattle.ac_automaton.proofs.words.WordPlaceLemmas.{entry-occurs, none-here, occurs-entry, window-part}

-- ---- the list of a state

-- an element of a list is one of its elements
entry-contained : (ns : List ℕ) (i n : ℕ) → slice_get ns i ≡ Some n → Contains ns n
entry-contained ns i n entry =
    subst (Contains ns) (get_or_from_slice_get ns i n 0 entry) (Contains-get_or ns i 0 (slice_get_within ns i n entry))

-- in a rising list of matches an earlier one is before a later one
rising-before : (f : ℕ → Occurrence) (ns : List ℕ) (i j a b : ℕ) → IsRising (map f ns) → slice_get ns i ≡ Some a
    → slice_get ns j ≡ Some b → i < j → preference Standard (f a) (f b) ≡ Less
rising-before f [] i j a b rising one two lt = let k = slice_get_within [] i a one in absurd (omega arith)
rising-before f (n ∷ ns) zero zero a b rising one two lt = absurd (omega arith)
rising-before f (n ∷ ns) (suc i) zero a b rising one two lt = absurd (omega arith)
rising-before f (n ∷ ns) zero (suc j) a b rising one two lt =
    let e : Some n ≡ Some a = one in
    let same : n ≡ a = cc in
    subst (λ k. preference Standard (f k) (f b) ≡ Less) same
    (IsRising-head (f n) (map f ns) rising (Contains-map f ns (entry-contained ns j b two)))
rising-before f (n ∷ ns) (suc i) (suc j) a b rising one two lt =
    rising-before f ns i j a b (IsRising-tail (f n) (map f ns) rising) one two (omega arith)

-- under standard an earlier entry of a state's list begins no later
list-longest : (m : Dictionary) (t ns : List ℕ) (i j a b : ℕ) → m.kind ≡ Standard → Tells m No t ns
    → slice_get ns i ≡ Some a → slice_get ns j ≡ Some b → i < j → (ending m t a).start ≤ (ending m t b).start
list-longest m t ns i j a b standard tells one two lt =
    let told = subst (λ kind. TellsUnanchored kind m t ns) standard tells in
    let before = rising-before (ending m t) ns i j a b told.0 one two lt in
    ⊎_elim
    (λ (sooner : (ending m t b).start < (ending m t a).start).
    let after = preference-less Standard (ending m t b) (ending m t a)
    (less_by_start (ending m t b) (ending m t a) refl sooner) in
    let e : Less ≡ Greater = sym before ∙ after in absurd cc)
    (λ (le : (ending m t a).start ≤ (ending m t b).start). le)
    (cases_lt (ending m t b).start (ending m t a).start)

-- none of the first entries of a list is a whole word of a text that ends at a place
abbrev pub FirstAreNone : Dictionary → List ℕ → ℕ → List ℕ → ℕ → Type 0
FirstAreNone m x at ns index =
    (i n : ℕ) → i < index → slice_get ns i ≡ Some n → is_whole_word x (ending_at m at n) ≡ false

-- one more entry, which isn't one either
pub none-more : (m : Dictionary) (x : List ℕ) (at : ℕ) (ns : List ℕ) (index n : ℕ) → FirstAreNone m x at ns index
    → slice_get ns index ≡ Some n → is_whole_word x (ending_at m at n) ≡ false → FirstAreNone m x at ns (index + 1)
none-more m x at ns index n none entry not_whole i k lt there =
    ⊎_elim
    (λ (less : i < index). none i k less there)
    (λ (le : index ≤ i).
    let here : i ≡ index = omega arith in
    let same : Some k ≡ Some n = sym there ∙ ap (slice_get ns) here ∙ entry in
    let number : k ≡ n = cc in
    ap (λ j. is_whole_word x (ending_at m at j)) number ∙ not_whole)
    (cases_lt i index)

module _ (m : Dictionary) (x : List ℕ) (at : ℕ) (within : at ≤ length x) (standard : m.kind ≡ Standard) (ns : List ℕ)
    (tells : Tells m No (slice_range x 0 at) ns) where
  -- the first entry that is a whole word is the longest that ends there
  pub longest-found : (index n : ℕ) → FirstAreNone m x at ns index → slice_get ns index ≡ Some n
      → IsTrue (is_whole_word x (ending_at m at n)) → IsLongestWord m x at (ending_at m at n).start
  longest-found index n none entry is_whole =
      let occurs = entry-occurs m x 0 at (omega arith) within standard ns tells index n entry in
      let long = slice_range-length x 0 {b = at} (omega arith) within in (
        omega arith,
        λ o word ends.
            let there = occurs-entry m x 0 at (omega arith) within standard ns tells o word.0 ends in
            let starts = ap (λ q. q.start) there.3 in
            ⊎_elim
            (λ (sooner : there.0 < index).
            absurd (false≢true (sym (none there.0 there.1 sooner there.2)
            ∙ subst (λ q. is_whole_word x q ≡ true) there.3 word.1)))
            (λ (no_sooner : index ≤ there.0). ⊎_elim
            (λ (later : index < there.0).
            let le = list-longest m (slice_range x 0 at) ns index there.0 n there.1 standard tells entry there.2 later in
            omega arith)
            (λ (no_later : there.0 ≤ index).
            let here : index ≡ there.0 = omega arith in
            let same : Some n ≡ Some there.1 = sym entry ∙ ap (slice_get ns) here ∙ there.2 in
            let number : n ≡ there.1 = cc in
            let begins = ap (λ k. (ending_at m at k).start) number in
            omega arith)
            (cases_lt index there.0))
            (cases_lt there.0 index),
        inr (ending_at m at n, (occurs.1, is_whole), refl, refl),
      )

  -- where no entry is one, none ends there
  pub longest-none : (index : ℕ) → length ns ≤ index → FirstAreNone m x at ns index → IsLongestWord m x at at
  longest-none index all none = (
    omega arith,
    λ o word ends.
        let there = occurs-entry m x 0 at (omega arith) within standard ns tells o word.0 ends in
        let k = slice_get_within ns there.0 there.1 there.2 in
        absurd (false≢true (sym (none there.0 there.1 (omega arith) there.2)
        ∙ subst (λ q. is_whole_word x q ≡ true) there.3 word.1)),
    inl refl,
  )

-- ---- what is masked

module _ (m : Dictionary) (mask from at : ℕ) (x bytes : List ℕ) where
  -- what was covered is covered by a word that ends before a later place
  covered-on : (next place : ℕ) → at ≤ next → IsCoveredAmong (EndsBefore at) (whole m x false) place
      → IsCoveredAmong (EndsBefore next) (whole m x false) place
  covered-on next place le h = let e = h.1.1 in (h.0, (h.1.0, omega arith), h.2)

  -- what is covered by a word that ends there or before was covered before, or is covered by the longest that ends there
  covered-next : (start : ℕ) → IsLongestWord m x at start → (place : ℕ)
      → IsCoveredAmong (EndsBefore (at + 1)) (whole m x false) place
      → IsCoveredAmong (EndsBefore at) (whole m x false) place ⊎ ((start ≤ place) × (place < at))
  covered-next start longest place h =
      let o = h.0 in
      let e = h.1.1 in
      let c = h.2 in
      ⊎_elim
      (λ (sooner : o.end < at). inl (o, (h.1.0, sooner), c))
      (λ (there : at ≤ o.end).
      let ends : o.end ≡ at = omega arith in
      let le = longest.1 o h.1.0 ends in
      inr (omega arith, omega arith))
      (cases_lt o.end at)

  -- where no word ends at the place, all is masked as before
  pub shows-none : IsLongestWord m x at at → ShowsMasked m mask from at x bytes → ShowsMasked m mask from (at + 1) x bytes
  shows-none longest shows =
      record {
        len = shows.len;
        covered = λ i h.
            ⊎_elim
            (λ old. shows.covered i old)
            (λ (new : (at ≤ from + i) × (from + i < at)). let a = new.0 in let b = new.1 in absurd (omega arith))
            (covered-next at longest (from + i) h);
        kept = λ i no. shows.kept i (λ h. no (covered-on (at + 1) (from + i) (omega arith) h));
      }

  -- where one does, its bytes get the mask
  pub shows-word : (start : ℕ) → IsLongestWord m x at start → start < at → from ≤ start → at ≤ length x
      → ShowsMasked m mask from at x bytes
      → ShowsMasked m mask from (at + 1) x (masked_between mask bytes (start - from) (at - from))
  shows-word start longest some held inside shows =
      let len = shows.len in
      let order : start - from ≤ at - from = omega arith in
      let within : at - from ≤ length bytes = omega arith in
      let long = between-length mask bytes (start - from) (at - from) order within in
      record {
        len = omega arith;
        covered = λ i h.
            ⊎_elim
            (λ (before : i < start - from).
            between-before mask bytes (start - from) (at - from) order within i before
            ∙ shows.covered i (⊎_elim (λ old. old)
            (λ (new : (start ≤ from + i) × (from + i < at)). let a = new.0 in absurd (omega arith))
            (covered-next start longest (from + i) h)))
            (λ (later : start - from ≤ i). ⊎_elim
            (λ (in_ : i < at - from). between-in mask bytes (start - from) (at - from) order within i later in_)
            (λ (past : at - from ≤ i).
            between-after mask bytes (start - from) (at - from) order within i past
            ∙ shows.covered i (⊎_elim (λ old. old)
            (λ (new : (start ≤ from + i) × (from + i < at)). let b = new.1 in absurd (omega arith))
            (covered-next start longest (from + i) h)))
            (cases_lt i (at - from)))
            (cases_lt i (start - from));
        kept = λ i no.
            let old = shows.kept i (λ h. no (covered-on (at + 1) (from + i) (omega arith) h)) in
            ⊎_elim
            (λ (before : i < start - from).
            between-before mask bytes (start - from) (at - from) order within i before ∙ old)
            (λ (later : start - from ≤ i). ⊎_elim
            (λ (in_ : i < at - from). ⊎_elim
            (λ (none : start ≡ at). absurd (omega arith))
            (λ (word : (o : Occurrence) × OccursWhole (whole m x false) o × (o.end ≡ at) × (o.start ≡ start)).
            let e = word.2 in let b = word.3 in
            absurd (no (word.0, (word.1, omega arith), (omega arith, omega arith))))
            longest.2)
            (λ (past : at - from ≤ i).
            between-after mask bytes (start - from) (at - from) order within i past ∙ old)
            (cases_lt i (at - from)))
            (cases_lt i (start - from));
      }

  -- where no occurrence ends between the place and a later one, all is masked as before
  pub shows-quiet : (next : ℕ) → at < next
      → ((o : Occurrence) → Occurs (whole m x false) o → at < o.end → next ≤ o.end)
      → ShowsMasked m mask from (at + 1) x bytes → ShowsMasked m mask from next x bytes
  shows-quiet next further quiet shows =
      record {
        len = shows.len;
        covered = λ i h.
            let o = h.0 in
            let e = h.1.1 in
            ⊎_elim
            (λ (later : at < o.end). let le = quiet o h.1.0.0 later in absurd (omega arith))
            (λ (sooner : o.end ≤ at). shows.covered i (o, (h.1.0, omega arith), h.2))
            (cases_lt at o.end);
        kept = λ i no. shows.kept i (λ h. let e = h.1.1 in no (h.0, (h.1.0, omega arith), h.2));
      }

-- at first nothing is masked
pub shows-first : (m : Dictionary) (mask from : ℕ) (x : List ℕ) → from ≤ length x
    → ShowsMasked m mask from 0 x (drop from x)
shows-first m mask from x within =
    record {
      len = let e = length-drop from x in omega arith;
      covered = λ i h. let e = h.1.1 in absurd (omega arith);
      kept = λ i no. get_or-drop from x i 0;
    }

-- a walk over a text that begins at its first byte
pub begins-masking : (m : Dictionary) (Reaches : List ℕ → StateID → Type 0) (mask : ℕ) (x : List ℕ) (sid : StateID)
    → Reaches [] sid → HasMaskedWords m Reaches mask 0 0 x (record { sid = sid; at = 0 }) x
begins-masking m Reaches mask x sid begins =
    record {
      place = record { within = omega arith; reads = begins };
      shows = shows-first m mask 0 x (omega arith);
    }

-- bytes that show the whole text with every word masked are the masked text
pub shows-all : (b : Built) (mask : ℕ) (x bytes : List ℕ)
    → ShowsMasked b.dictionary mask 0 (length x + 1) x bytes → bytes ≡ masked_words_in b mask x
shows-all b mask x bytes shows =
    (among-masked_one whole-counted mask (whole b.dictionary x false) bytes (omega arith)).0
    (record {
      len = let e = shows.len in omega arith;
      covered = λ at h.
          let first : 0 + at ≡ at = omega arith in
          let w = h.1.0.within in
          shows.covered at
          (subst (IsCoveredAmong (EndsBefore (length x + 1)) (whole b.dictionary x false)) (sym first)
          (h.0, (h.1, omega arith), h.2));
      kept = λ at no.
          let first : 0 + at ≡ at = omega arith in
          shows.kept at
          (λ h.
          let c = subst (IsCoveredAmong (EndsBefore (length x + 1)) (whole b.dictionary x false)) first h in
          no (c.0, c.1.0, c.2))
          ∙ ap (slice_index x) first;
    })

-- ---- what is held

-- the longest word at a place is held whole
pub longest-held : (m : Dictionary) {x : List ℕ} {at start : ℕ} (from : ℕ)
    → (0 < from → from + longest m.patterns < at) → IsLongestWord m x at start → from ≤ start
longest-held m {x} {at} from near long =
    ⊎_elim
    (λ (past : 0 < from).
    let far = near past in
    ⊎_elim
    (λ (none : _ ≡ at). omega arith)
    (λ word.
    let reach = occurs-reach {s = whole m x false} (omega arith) word.1.0 in
    let e = word.2 in let b = word.3 in omega arith)
    long.2)
    (λ (first : from ≤ 0). omega arith)
    (cases_lt 0 from)

-- the part of a text from a place on, seen in the window
pub window-rest : {w : Window} {x : List ℕ} → IsWindowOf w x → (at : ℕ) → w.from ≤ at → at ≤ length x
    → slice_range w.bytes.now (at - w.from) (length w.bytes.now) ≡ slice_range x at (length x)
window-rest {w} {x} is at le within =
    let end = window-end is in
    let size : length w.bytes.now ≡ length x - w.from = omega arith in
    ap (slice_range w.bytes.now (at - w.from)) size ∙ window-part is at (length x) le within

-- ---- reading on

-- reading on stops where the next occurrence ends, or before
pub reads-quietly : (m : Dictionary) (Reaches : List ℕ → StateID → Type 0) (matches : StateID → List ℕ) {x : List ℕ}
    {p : MaskPlace} → m.kind ≡ Standard
    → ((text : List ℕ) (sid : StateID) → Reaches text sid → Tells m No text (matches sid))
    → IsMaskPlace Reaches x p → (stop : Advance)
    → AdvancesToMatch Reaches matches p.sid (slice_range x p.at (length x)) stop
    → PassesQuietly m Reaches x p (record { sid = stop.sid; at = p.at + stop.taken })
reads-quietly m Reaches matches {x} {p} standard tells is stop goes =
    let at = p.at in
    let within = is.within in
    let left = slice_range x at (length x) in
    let long = slice_range-length x at {b = length x} (omega arith) (omega arith) in
    let fits = goes.taken.0 in (
      record {
        within = omega arith;
        reads = subst (λ l. Reaches l stop.sid) (part-front x 0 at (length x) stop.taken (omega arith) (omega arith))
            (goes.reads (slice_range x 0 at) is.reads);
      },
      λ o occurs past.
          ⊎_elim
          (λ (before : o.end < at + stop.taken).
          let k : ℕ = o.end - at in
          let there : at + k ≡ o.end = omega arith in
          let mid = goes.plain k (omega arith) (omega arith) in
          let text : slice_range x 0 at ++ take k left ≡ slice_range x 0 o.end =
          part-front x 0 at (length x) k (omega arith) (omega arith) ∙ ap (slice_range x 0) there in
          let reads = subst (λ l. Reaches l mid.0) text (mid.1 (slice_range x 0 at) is.reads) in
          absurd (none-here m x 0 o.end (omega arith) (omega arith) standard (matches mid.0) (tells _ mid.0 reads)
          (list-none (matches mid.0) (λ has. mid.2 (matching-some (matches mid.0) has))) o occurs refl))
          (λ (no_sooner : at + stop.taken ≤ o.end). no_sooner)
          (cases_lt o.end (at + stop.taken)),
    )
