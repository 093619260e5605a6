-- The listing of the whole words: what a state's list gives, what a search passes, and when all were given.
use Rattle.std.proofs.Common.{◌≡◌, ⊎_elim, ℕ, ◌+◌, ◌-◌, ◌<◌, ◌≤◌, Bool, true, false, cond, Option, None, Some, is_some, List, [], ◌∷◌, ◌++◌, length, map, take, drop, get_or, slice_get, slice_range, sym, ap, subst, refl, ◌∙◌, arith, append-nil, append_assoc, length-append, length-drop, take-append-drop}
use Rattle.std.specs.List.{All, Contains, filter}
use Rattle.std.proofs.Math.Seq.{take-add}
use Rattle.std.proofs.lemmas.Bool.{cases_lt, false≢true}
use Rattle.std.proofs.lemmas.List.{drop-drop, drop_all, length-take-le, take-append-le, take-take, take_all}
use Rattle.std.proofs.lemmas.List.Elements.{All-contains, Contains-append_cases, filter-append}
use Rattle.ac_input.specs.Number.{StateID}
use Rattle.ac_input.specs.declared.search.Anchored.TheVariants.{No}
use Rattle.ac_input.specs.declared.search.MatchKind.TheVariants.{Standard}
use Rattle.ac_input.specs.Computed.{listing_of}
use Rattle.ac_input.specs.Dictionary.{Dictionary, whole}
use Rattle.ac_input.specs.Occurrence.{Occurrence}
use Rattle.ac_input.specs.Tells.{Tells, ending_at}
use Rattle.ac_input.specs.Word.{OccursWhole, is_whole_word}
use Rattle.ac_input.specs.Work.{longest}
use Rattle.ac_input.proofs.lemmas.BeginningLemmas.{whole-overlapping_begins}
use Rattle.ac_input.proofs.lemmas.ContainsLemmas.{Contains-cases, Contains-filter, Contains-from_filter, Contains-nil}
use Rattle.ac_input.proofs.lemmas.ListingLemmas.{listing_of-lists}
use Rattle.ac_input.proofs.lemmas.WordLemmas.{occurs-reach, word-stays, words-filtered}
use Rattle.ac_automaton.specs.Automaton.{AdvancesToMatch}
use Rattle.ac_automaton.specs.ListedWords.{AreFirstWords, HasListed, IsByteKnown, ListsWord, StandsForListed, TellsWord, word_listing, words_told, words_up_to}
use Rattle.ac_automaton.specs.Words.{IsWindowOf, text_from}
use Rattle.ac_automaton.specs.declared.automaton.Advance.{Advance}
use Rattle.ac_automaton.specs.declared.words.Window.{Window}
use Rattle.ac_automaton.specs.declared.words.listed.ListedPlace.{ListedPlace}
use Rattle.ac_automaton.proofs.automaton.PassLemmas.{matching-some}
use Rattle.ac_automaton.proofs.in_memory.find.TakenLemmas.{drop-at}
use Rattle.ac_automaton.proofs.lemmas.CursorLemmas.{list-none}
use Rattle.ac_automaton.proofs.stream.StreamLemmas.{all-from}
use Rattle.ac_automaton.proofs.stream.StreamListingLemmas.{listing-first, listing-more, rest-later}
use Rattle.ac_automaton.proofs.words.FinalLemmas.{window-end}
use Rattle.ac_automaton.proofs.words.WordPlaceLemmas.{entry-occurs}

-- ---- the list of a state

module _ (m : Dictionary) (z : List ℕ) (at : ℕ) (ns : List ℕ) (index n : ℕ) (entry : slice_get ns index ≡ Some n) where
  abbrev rest : List Occurrence
  rest = words_told m z at (drop (index + 1) ns)

  told-next : words_told m z at (drop index ns) ≡ cond (is_whole_word z (ending_at m at n)) (ending_at m at n ∷ rest) rest
  told-next = ap (λ l. filter (is_whole_word z) (map (ending_at m at) l)) (drop-at ns index n entry)

  -- an entry that is a whole word is the next one
  told-word : is_whole_word z (ending_at m at n) ≡ true → words_told m z at (drop index ns) ≡ ending_at m at n ∷ rest
  told-word whole_one = told-next ∙ ap (λ b. cond b (ending_at m at n ∷ rest) rest) whole_one

  -- one that isn't is passed over
  told-other : is_whole_word z (ending_at m at n) ≡ false → words_told m z at (drop index ns) ≡ rest
  told-other other = told-next ∙ ap (λ b. cond b (ending_at m at n ∷ rest) rest) other

-- where the whole list was looked at, no word of it is left
told-none : (m : Dictionary) (z : List ℕ) (at : ℕ) (ns : List ℕ) (index : ℕ) → length ns ≤ index
    → words_told m z at (drop index ns) ≡ []
told-none m z at ns index all = ap (words_told m z at) (drop_all index ns all)

-- ---- the next word of the list

-- a word that ends where the search stands stays one, or stays none, however the text goes on
known-word : {w : Window} {x : List ℕ} (p : ListedPlace) → IsWindowOf w x → IsByteKnown w p → (more : List ℕ)
    → (w.closed ≡ true → more ≡ []) → (o : Occurrence) → o.start ≤ o.end → o.end ≡ p.at
    → is_whole_word (x ++ more) o ≡ is_whole_word x o
known-word {w} {x} p is known more follows o order ends =
    let end = window-end is in
    ⊎_elim
    (λ (inside : _ < w.from + length w.bytes.now). word-stays x more o order (omega arith))
    (λ (closed : w.closed ≡ true). ap (λ l. is_whole_word l o) (ap (λ l. x ++ l) (follows closed) ∙ append-nil x))
    known

-- ---- where a search stands

-- the text up to a place, counted from its first byte
pub from-first : (x : List ℕ) (at : ℕ) → take at x ≡ slice_range x 0 at
from-first x at = let e : at ≡ at - 0 = omega arith in ap (λ n. take n x) e

module _ (m : Dictionary) (Reaches : List ℕ → StateID → Type 0) (matches : StateID → List ℕ) (standard : m.kind ≡ Standard)
    (tells : (text : List ℕ) (sid : StateID) → Reaches text sid → Tells m No text (matches sid)) where
  -- at first nothing was given
  pub listed-start : (closed : Bool) (x : List ℕ) (start : StateID) → Reaches [] start
      → StandsForListed m Reaches matches 0 closed x [] (record { sid = start; at = 0; index = 0 })
  listed-start closed x start begins =
      record {
        before = λ some. omega arith;
        within = omega arith;
        reads = begins;
        listed = λ more follows.
            ap (filter (is_whole_word (x ++ more))) (listing-first m (matches start) standard (tells [] start begins));
      }

  module _ {from : ℕ} {closed : Bool} {x : List ℕ} {given : List Occurrence} {p : ListedPlace}
      (is : StandsForListed m Reaches matches from closed x given p) where
    -- where it stands has been read past the first byte held
    pub listed-held : from ≤ p.at
    listed-held =
        ⊎_elim
        (λ (some : 0 < from). let before = is.before some in omega arith)
        (λ (none : from ≤ 0). omega arith)
        (cases_lt 0 from)

    -- an entry of the state's list lies in what was read, and the byte before it is held
    pub listed-entry : (i n : ℕ) → slice_get (matches p.sid) i ≡ Some n
        → (length (get_or m.patterns n []) ≤ p.at) × (0 < p.at - length (get_or m.patterns n [])
        → from < p.at - length (get_or m.patterns n []))
    listed-entry i n entry =
        let there = entry-occurs m x 0 p.at (omega arith) is.within standard (matches p.sid)
        (subst (λ l. Tells m No l (matches p.sid)) (from-first x p.at) (tells _ p.sid is.reads)) i n entry in
        let few = there.0 in
        let reach = occurs-reach {s = text_from m x 0} (omega arith) there.1 in (
          omega arith,
          λ past. ⊎_elim
              (λ (some : 0 < from). let before = is.before some in omega arith)
              (λ (none : from ≤ 0). omega arith)
              (cases_lt 0 from),
        )

  -- one more entry of the list, which is a whole word, was given
  pub listed-word : {w : Window} {x : List ℕ} {given : List Occurrence} {p : ListedPlace} → IsWindowOf w x → IsByteKnown w p
      → (is : StandsForListed m Reaches matches w.from w.closed x given p) → (n : ℕ) → slice_get (matches p.sid) p.index ≡ Some n
      → is_whole_word x (ending_at m p.at n) ≡ true
      → StandsForListed m Reaches matches w.from w.closed x (given ++ ending_at m p.at n ∷ []) (record p { index = p.index + 1 })
  listed-word {w} {x} {given} {p} shown known is n entry whole_one =
      let o = ending_at m p.at n in
      let lies = (listed-entry is p.index n entry).0 in
      record {
        before = is.before;
        within = is.within;
        reads = is.reads;
        listed = λ more follows.
            is.listed more follows
            ∙ ap (λ l. given ++ l) (told-word m (x ++ more) p.at (matches p.sid) p.index n entry
            (known-word p shown known more follows o (omega arith) refl ∙ whole_one))
            ∙ sym (append_assoc given (o ∷ []) (words_told m (x ++ more) p.at (drop (p.index + 1) (matches p.sid))));
      }

  -- one that isn't was passed over
  pub listed-other : {w : Window} {x : List ℕ} {given : List Occurrence} {p : ListedPlace} → IsWindowOf w x → IsByteKnown w p
      → (is : StandsForListed m Reaches matches w.from w.closed x given p) → (n : ℕ) → slice_get (matches p.sid) p.index ≡ Some n
      → is_whole_word x (ending_at m p.at n) ≡ false
      → StandsForListed m Reaches matches w.from w.closed x given (record p { index = p.index + 1 })
  listed-other {w} {x} {given} {p} shown known is n entry other =
      let o = ending_at m p.at n in
      let lies = (listed-entry is p.index n entry).0 in
      record {
        before = is.before;
        within = is.within;
        reads = is.reads;
        listed = λ more follows.
            is.listed more follows
            ∙ ap (λ l. given ++ l) (told-other m (x ++ more) p.at (matches p.sid) p.index n entry
            (known-word p shown known more follows o (omega arith) refl ∙ other));
      }

  -- ---- reading on

  -- the listing up to where no state on the way matched, and up to before it
  listing-on : (x : List ℕ) (at : ℕ) (sid : StateID) (stop : Advance) → at ≤ length x → Reaches (take at x) sid
      → AdvancesToMatch Reaches matches sid (drop at x) stop → 0 < stop.taken
      → Reaches (take (at + stop.taken) x) stop.sid
      × (listing_of (whole m (take (at + stop.taken) x) false)
      ≡ listing_of (whole m (take at x) false) ++ map (ending_at m (at + stop.taken)) (matches stop.sid))
  listing-on x at sid stop within reads goes some =
      let text = take at x in
      let left = drop at x in
      let more = take stop.taken left in
      let fits = goes.taken.0 in
      let size = length-drop at x in
      let long : length more ≡ stop.taken = length-take-le stop.taken left fits in
      let then : take (at + stop.taken) x ≡ text ++ more = take-add at stop.taken x in
      let reached : Reaches (text ++ more) stop.sid = goes.reads text reads in
      let quiet : (k : ℕ) → 0 < k → k < length more → Tells m No (text ++ take k more) [] =
      λ k past before.
      let mid = goes.plain k past (omega arith) in
      let here : take k more ≡ take k left = take-take k stop.taken left (omega arith) in
      subst (λ ns. Tells m No (text ++ take k more) ns)
      (list-none (matches mid.0) (λ has. mid.2 (matching-some (matches mid.0) has)))
      (subst (λ l. Tells m No (text ++ l) (matches mid.0)) (sym here) (tells _ mid.0 (mid.1 text reads))) in
      let size_then : length (text ++ more) ≡ at + stop.taken =
      ap length (sym then) ∙ length-take-le (at + stop.taken) x (omega arith) in (
        subst (λ l. Reaches l stop.sid) (sym then) reached,
        ap (λ l. listing_of (whole m l false)) then
            ∙ listing-more m text more (matches stop.sid) standard (omega arith) (tells _ stop.sid reached) quiet
            ∙ ap (λ n. listing_of (whole m text false) ++ map (ending_at m n) (matches stop.sid)) size_then,
      )

  -- a search that has looked at its whole list stands right further on, after bytes on which no state matched
  pub listed-further : {from : ℕ} {closed : Bool} {x : List ℕ} {given : List Occurrence} {p : ListedPlace}
      → (is : StandsForListed m Reaches matches from closed x given p) → length (matches p.sid) ≤ p.index
      → p.at < length x → (stop : Advance) → AdvancesToMatch Reaches matches p.sid (drop p.at x) stop
      → StandsForListed m Reaches matches from closed x given (record { sid = stop.sid; at = p.at + stop.taken; index = 0 })
  listed-further {from} {closed} {x} {given} {p} is all inside stop goes =
      let size = length-drop p.at x in
      let fits = goes.taken.0 in
      let some = goes.taken.1 (omega arith) in
      let next : ℕ = p.at + stop.taken in
      let on = listing-on x p.at p.sid stop is.within is.reads goes some in
      let inner : next ≤ length x = omega arith in
      record {
        before = λ past. let before = is.before past in omega arith;
        within = inner;
        reads = on.0;
        listed = λ more follows.
            let word = is_whole_word (x ++ more) in
            let was : filter word (listing_of (whole m (take p.at x) false)) ≡ given =
            ap (λ l. filter word (listing_of (whole m l false))) (sym (take-append-le p.at x more is.within))
            ∙ is.listed more follows
            ∙ ap (λ l. given ++ l) (told-none m (x ++ more) p.at (matches p.sid) p.index all) ∙ append-nil given in
            ap (λ l. filter word (listing_of (whole m l false))) (take-append-le next x more inner)
            ∙ ap (filter word) on.1
            ∙ filter-append word (listing_of (whole m (take p.at x) false)) (map (ending_at m next) (matches stop.sid))
            ∙ ap (λ l. l ++ words_told m (x ++ more) next (matches stop.sid)) was;
      }

-- ---- the first words of the listing

-- the words of a text that are left: those of the state's list, and those that end later
abbrev words_left : Dictionary → (StateID → List ℕ) → ListedPlace → List ℕ → List Occurrence
words_left m matches p z =
    words_told m z p.at (drop p.index (matches p.sid))
    ++ filter (is_whole_word z) (whole-overlapping_begins m (take p.at z) (drop p.at z) false).0.0

-- however the text goes on, its words are those that were given, then those that are left
listed-splits : (m : Dictionary) (matches : StateID → List ℕ) (closed : Bool) (x : List ℕ) (given : List Occurrence)
    (p : ListedPlace) → HasListed m matches closed x given p → (more : List ℕ) → (closed ≡ true → more ≡ [])
    → word_listing m (x ++ more) ≡ given ++ words_left m matches p (x ++ more)
listed-splits m matches closed x given p listed more follows =
    let z = x ++ more in
    let word = is_whole_word z in
    let front = take p.at z in
    let told = words_told m z p.at (drop p.index (matches p.sid)) in
    let begins = (whole-overlapping_begins m front (drop p.at z) false).0 in
    words-filtered (whole m z false) (omega arith)
    ∙ ap (λ l. filter word (listing_of (whole m l false))) (sym (take-append-drop p.at z))
    ∙ ap (filter word) begins.1 ∙ filter-append word (listing_of (whole m front false)) begins.0
    ∙ ap (λ l. l ++ filter word begins.0) (listed more follows)
    ∙ append_assoc given told (filter word begins.0)

-- what was given are the first words of the text, however it goes on
pub listed-begins : (m : Dictionary) (matches : StateID → List ℕ) (closed : Bool) (x : List ℕ) (given : List Occurrence)
    (p : ListedPlace) → HasListed m matches closed x given p → AreFirstWords m closed x given
listed-begins m matches closed x given p listed more follows =
    (words_left m matches p (x ++ more), listed-splits m matches closed x given p listed more follows)

-- once all was read and looked at, and nothing follows, all words of the text were given
pub listed-all : (m : Dictionary) (matches : StateID → List ℕ) (x : List ℕ) (given : List Occurrence) (p : ListedPlace)
    → HasListed m matches true x given p → length x ≤ p.at → length (matches p.sid) ≤ p.index → given ≡ word_listing m x
listed-all m matches x given p listed end all =
    sym (append-nil given)
    ∙ ap (λ l. given ++ l) (sym (told-none m (x ++ []) p.at (matches p.sid) p.index all))
    ∙ sym (listed [] (λ _. refl))
    ∙ ap (λ l. words_up_to m l p.at) (append-nil x)
    ∙ ap (λ l. filter (is_whole_word x) (listing_of (whole m l false))) (take_all p.at x end)
    ∙ sym (words-filtered (whole m x false) (omega arith))

-- ---- the window

-- the rest of the window is the rest of the text
pub window-rest : {w : Window} {x : List ℕ} → IsWindowOf w x → (at : ℕ) → w.from ≤ at
    → slice_range w.bytes.now (at - w.from) (length w.bytes.now) ≡ drop at x
window-rest {w} {x} is at le =
    let there : w.from + (at - w.from) ≡ at = omega arith in
    let size = length-drop (at - w.from) w.bytes.now in
    take_all (length w.bytes.now - (at - w.from)) (drop (at - w.from) w.bytes.now) (omega arith)
    ∙ ap (drop (at - w.from)) is.shown ∙ drop-drop (at - w.from) w.from x ∙ ap (λ n. drop n x) there

-- ---- one call

module _ (m : Dictionary) (Reaches : List ℕ → StateID → Type 0) (matches : StateID → List ℕ) (from : ℕ) (closed : Bool)
    (x : List ℕ) (given : List Occurrence) (p : ListedPlace) where
  -- the next word of the state's list is the next one of the listing
  pub listed-next : (r : Option Occurrence) → is_some r ≡ true → TellsWord m Reaches matches from closed x given p r
      → ListsWord m Reaches matches from closed x given p r
  listed-next None some told = absurd (false≢true some)
  listed-next (Some o) some told =
      (told.0, told.1, listed-begins m matches closed x (given ++ o ∷ []) p told.0.listed)

  -- where the list has no other word, it stands right with all of it looked at
  pub listed-none : (r : Option Occurrence) → is_some r ≡ false → TellsWord m Reaches matches from closed x given p r
      → StandsForListed m Reaches matches from closed x given p × (length (matches p.sid) ≤ p.index)
  listed-none None none told = told
  listed-none (Some o) none told = absurd (false≢true (sym none))

  -- where all was read and looked at, no word can be told yet, and if nothing follows there is none
  pub listed-end : StandsForListed m Reaches matches from closed x given p → length (matches p.sid) ≤ p.index → p.at ≡ length x
      → ListsWord m Reaches matches from closed x given p None
  listed-end is all end = (
    is,
    end,
    λ over. listed-all m matches x given p (subst (λ b. HasListed m matches b x given p) over is.listed) (omega arith) all,
  )

-- ---- a text that goes on

module _ (m : Dictionary) (Reaches : List ℕ → StateID → Type 0) (matches : StateID → List ℕ) {from : ℕ} {closed : Bool}
    {x : List ℕ} {given : List Occurrence} {p : ListedPlace}
    (is : StandsForListed m Reaches matches from closed x given p) where
  -- where more may follow, it stands right in a longer text
  pub listed-longer : closed ≡ false → (piece : List ℕ) → StandsForListed m Reaches matches from closed (x ++ piece) given p
  listed-longer open_ piece =
      let all = length-append x piece in
      let within = is.within in
      record {
        before = is.before;
        within = omega arith;
        reads = subst (λ l. Reaches l p.sid) (sym (take-append-le p.at x piece within)) is.reads;
        listed = λ more follows.
            subst (λ l. words_up_to m l p.at ≡ given ++ words_told m l p.at (drop p.index (matches p.sid)))
            (sym (append_assoc x piece more)) (is.listed (piece ++ more) (λ over. absurd (false≢true (sym open_ ∙ over))));
      }

  -- and where fewer bytes are held, as long as those before the words that it may still meet are
  pub listed-held_from : (later : ℕ) → (0 < later → later + longest m.patterns < p.at)
      → StandsForListed m Reaches matches later closed x given p
  listed-held_from later before = record { before = before; within = is.within; reads = is.reads; listed = is.listed }

-- ---- what is left

-- a whole word of a text is in its listing
pub word-listed : (m : Dictionary) (x : List ℕ) (o : Occurrence) → OccursWhole (whole m x false) o
    → Contains (word_listing m x) o
word-listed m x o word =
    subst (λ os. Contains os o) (sym (words-filtered (whole m x false) (omega arith)))
    (Contains-filter (is_whole_word x) (listing_of (whole m x false))
    (((listing_of-lists {s = whole m x false} (omega arith)).1 o).1 word.0) word.1)

-- what is in the listing is a whole word
pub listed-occurs : (m : Dictionary) (x : List ℕ) (o : Occurrence) → Contains (word_listing m x) o
    → OccursWhole (whole m x false) o
listed-occurs m x o there =
    let kept = Contains-from_filter (is_whole_word x) (listing_of (whole m x false))
    (subst (λ os. Contains os o) (words-filtered (whole m x false) (omega arith)) there) in
    (((listing_of-lists {s = whole m x false} (omega arith)).1 o).0 kept.0, kept.1)

-- the entries of a state's list end where it stands
entries-end : (m : Dictionary) (at : ℕ) (ns : List ℕ) (o : Occurrence) → Contains (map (ending_at m at) ns) o → o.end ≡ at
entries-end m at [] o c = absurd (Contains-nil c)
entries-end m at (n ∷ ns) o c =
    ⊎_elim
    (λ (same : ending_at m at n ≡ o). ap (λ q. q.end) (sym same))
    (λ rest. entries-end m at ns o rest)
    (Contains-cases (map (ending_at m at) ns) c)

module _ (m : Dictionary) (matches : StateID → List ℕ) (closed : Bool) (x : List ℕ) (given : List Occurrence) (p : ListedPlace)
    (within : p.at ≤ length x) (listed : HasListed m matches closed x given p) where
  -- however the text goes on, the words that are left end where the search stands, or later
  pub left-later : (more : List ℕ) → (closed ≡ true → more ≡ [])
      → (rest : List Occurrence) × (word_listing m (x ++ more) ≡ given ++ rest) × All (λ o. p.at ≤ o.end) rest
  left-later more follows =
      let z = x ++ more in
      let word = is_whole_word z in
      let front = take p.at z in
      let ns = drop p.index (matches p.sid) in
      let both = length-append x more in
      let long : length front ≡ p.at = length-take-le p.at z (omega arith) in
      let begins = (whole-overlapping_begins m front (drop p.at z) false).0 in
      let later : (o : Occurrence) → Contains (words_left m matches p z) o → p.at ≤ o.end =
      λ o c. ⊎_elim
      (λ here. let e = entries-end m p.at ns o (Contains-from_filter word (map (ending_at m p.at) ns) here).0 in
      omega arith)
      (λ there.
      let after = rest-later m front (drop p.at z) (listing_of (whole m front false)) [] (sym (append-nil _))
      (λ q none. absurd (Contains-nil none)) begins.0 begins.1 o (Contains-from_filter word begins.0 there).0 in
      omega arith)
      (Contains-append_cases (words_told m z p.at ns) (filter word begins.0) o c) in (
        words_left m matches p z,
        listed-splits m matches closed x given p listed more follows,
        all-from (λ o. p.at ≤ o.end) (words_left m matches p z) later,
      )

  -- a whole word that ends before the search stands was given
  pub sooner-given : (o : Occurrence) → OccursWhole (whole m x false) o → o.end < p.at → Contains given o
  sooner-given o word before =
      let left = left-later [] (λ _. refl) in
      let there : Contains (given ++ left.0) o =
      subst (λ os. Contains os o) (sym (ap (word_listing m) (append-nil x)) ∙ left.1) (word-listed m x o word) in
      ⊎_elim
      (λ here. here)
      (λ rest. let late = All-contains (λ (q : Occurrence). p.at ≤ q.end) left.0 o left.2 rest in absurd (omega arith))
      (Contains-append_cases given left.0 o there)
