-- How a search of a stream goes on to the next occurrence.
use Rattle.std.proofs.Common.{◌≡◌, ⊎_elim, ℕ, zero, suc, ◌+◌, ◌-◌, ◌*◌, ◌<◌, ◌≤◌, Bool, true, false, IsTrue, List, [], ◌∷◌, ◌++◌, length, map, take, drop, get_or, slice_get, Option, None, Some, sym, ap, subst, refl, ◌∙◌, arith, append-nil, append_assoc, length-append, length-drop, inl, add-zero}
use Rattle.std.specs.List.{Contains, slice_index_or}
use Rattle.std.proofs.Math.ListN.{drop_of_length-le}
use Rattle.std.proofs.Math.Seq.{take-add}
use Rattle.std.proofs.lemmas.Bool.{cases_lt, false≢true}
use Rattle.std.proofs.lemmas.List.{drop-drop, length-take-le, take-append-drop, take-take}
use Rattle.std.proofs.lemmas.List.Elements.{Contains-append_left, Contains-append_right, Contains-append_cases, All-contains_itself}
use Rattle.std.proofs.lemmas.Option.{slice_get_within, get_or_from_slice_get}
use Rattle.ac_input.specs.declared.search.MatchKind.TheVariants.{Standard}
use Rattle.ac_input.specs.declared.search.Anchored.{Anchored}
use Rattle.ac_input.specs.declared.search.Anchored.TheVariants.{No}
use Rattle.ac_input.specs.declared.steps.Steps.{Steps}
use Rattle.ac_input.specs.Number.{usize_max, StateID}
use Rattle.ac_input.specs.Laws.BeginningLaws.{IsBeginning}
use Rattle.ac_input.specs.Computed.{listing_of}
use Rattle.ac_input.specs.Dictionary.{Dictionary, IsLive, live_len, whole}
use Rattle.ac_input.specs.Listing.{ListsAll, IsRising}
use Rattle.ac_input.specs.Occurrence.{Occurrence, Occurs}
use Rattle.ac_input.specs.Tells.{Tells, TellsUnanchored, ending, ending_at}
use Rattle.ac_input.specs.Work.{lookups_per_byte, shortest, longest}
use Rattle.ac_input.proofs.lemmas.BeginningLemmas.{longer-occurs, occurs-longer, whole-overlapping_begins}
use Rattle.ac_input.proofs.lemmas.ContainsLemmas.{Contains-cases, Contains-head, Contains-nil, Contains-tail}
use Rattle.ac_input.proofs.lemmas.ListingLemmas.{ListsAll-unique, listing_of-lists}
use Rattle.ac_input.proofs.lemmas.OrderLemmas.{occurs-end}
use Rattle.ac_input.proofs.lemmas.RisingLemmas.{IsRising-append, less_by_end, IsRising-once, IsRising-tail}
use Rattle.ac_automaton.specs.Ahead.{most_ahead}
use Rattle.ac_automaton.specs.Automaton.{AdvancesToMatch, Built, IsReadCost, has_some}
use Rattle.ac_automaton.specs.Stream.Devices.Buffer.{least_room}
use Rattle.ac_automaton.specs.Stream.Devices.Moved.{AllFit}
use Rattle.ac_automaton.specs.Stream.{AreAllGiven, FindsHeld, IsDecided, IsOnCourse, Occurrences, ReadsNothing, StreamProgress, again_for, cut_of, end_of, items_of, read_by, read_in_all}
use Rattle.ac_automaton.specs.Stream.Overlapping.Search.{HasReadHeld, IsListedAt, ListsOn, StandsInList, after_listed, listed_to, searched_by}
use Rattle.ac_automaton.specs.Stream.Search.{some_of}
use Rattle.ac_automaton.specs.declared.automaton.Advance.{Advance}
use Rattle.ac_automaton.specs.declared.stream.overlapping.search.ListPlace.{ListPlace}
use Rattle.ac_automaton.specs.declared.stream.overlapping.search.Listed.{Listed}
use Rattle.ac_automaton.proofs.stream.SequenceLemmas.{occurrences≢picks}
use Rattle.ac_input.proofs.lemmas.LiveLemmas.{dead-best}
use Rattle.ac_input.proofs.lemmas.SomeLemmas.{live-some}
use Rattle.ac_input.proofs.lemmas.UnusedLemmas.{occurs-some}
use Rattle.ac_automaton.proofs.in_memory.find.TakenLemmas.{drop-at}

-- ---- the listing of a text that grows

-- all occurrences in a text
abbrev pub listing : Dictionary → List ℕ → List Occurrence
listing m text = listing_of (whole m text false)

-- the listing of a text holds its occurrences
listing-lists : (m : Dictionary) (text : List ℕ) → ListsAll (Occurs (whole m text false)) (listing m text)
listing-lists m text = listing_of-lists (omega arith)

-- the occurrences of a state's list are those that end where the text does
told-all : (m : Dictionary) (text ns : List ℕ) → m.kind ≡ Standard → Tells m No text ns
    → ListsAll (λ o. Occurs (whole m text false) o × (o.end ≡ length text)) (map (ending m text) ns)
told-all m text ns standard tells = subst (λ kind. TellsUnanchored kind m text ns) standard tells

-- the listing of an empty text is what its state shows
pub listing-first : (m : Dictionary) (ns : List ℕ) → m.kind ≡ Standard → Tells m No [] ns
    → listing m [] ≡ map (ending m []) (drop 0 ns)
listing-first m ns standard tells =
    let told = told-all m [] ns standard tells in
    let all = listing-lists m [] in
    ListsAll-unique all (
      told.0,
      λ o. (λ c. ((told.1 o).0 c).0, λ occurs. (told.1 o).1 (occurs, let w = occurs.within.2 in omega arith)),
    )

-- The listing of a longer text is the listing of the text, then what the longer text's state shows. No state on the way
-- shows anything.
pub listing-more : (m : Dictionary) (text more ns : List ℕ) → m.kind ≡ Standard → 0 < length more
    → Tells m No (text ++ more) ns → ((k : ℕ) → 0 < k → k < length more → Tells m No (text ++ take k more) [])
    → listing m (text ++ more) ≡ listing m text ++ map (ending m (text ++ more)) (drop 0 ns)
listing-more m text more ns standard some tells quiet =
    let told = told-all m (text ++ more) ns standard tells in
    let before = listing-lists m text in
    let both = length-append text more in
    let inside : length text ≤ length text = omega arith in
    let le : length text ≤ length (text ++ more) = omega arith in
    ListsAll-unique (listing-lists m (text ++ more)) (
      IsRising-append (listing m text) (map (ending m (text ++ more)) ns) before.0 told.0
          (λ a b here there. let w = ((before.1 a).0 here).within.2 in let e = ((told.1 b).0 there).1 in
          less_by_end a b (omega arith)),
      λ o. (
        λ c. ⊎_elim
            (λ here. occurs-longer more inside le ((before.1 o).0 here))
            (λ there. ((told.1 o).0 there).0)
            (Contains-append_cases (listing m text) (map (ending m (text ++ more)) ns) o c),
        λ occurs. ⊎_elim
            (λ (later : length text < o.end).
            Contains-append_right (listing m text) (map (ending m (text ++ more)) ns) o
            ((told.1 o).1 (occurs, at-end o occurs later)))
            (λ (early : o.end ≤ length text).
            Contains-append_left (listing m text) (map (ending m (text ++ more)) ns) o
            ((before.1 o).1 (longer-occurs more inside early occurs)))
            (cases_lt (length text) o.end),
      ),
    )
  where
    -- an occurrence that ends after the text ends at the end of the longer text
    at-end : (o : Occurrence) → Occurs (whole m (text ++ more) false) o → length text < o.end
        → o.end ≡ length (text ++ more)
    at-end o occurs later = ⊎_elim
        (λ (early : o.end < length (text ++ more)).
        let both = length-append text more in
        let k : ℕ = o.end - length text in
        let fits : k ≤ length more = omega arith in
        let long : length (take k more) ≡ k = length-take-le k more fits in
        let front : List ℕ = text ++ take k more in
        let joined = length-append text (take k more) in
        let there : o.end ≡ length front = omega arith in
        let split : text ++ more ≡ front ++ drop k more = ap (λ l. text ++ l) (sym (take-append-drop k more))
        ∙ sym (append_assoc text (take k more) (drop k more)) in
        let whole_there : Occurs (whole m (front ++ drop k more) false) o =
        subst (λ l. Occurs (whole m l false) o) split occurs in
        let here : Occurs (whole m front false) o =
        longer-occurs (drop k more) (omega arith) (omega arith) whole_there in
        absurd (Contains-nil
        (((told-all m front [] standard (quiet k (omega arith) (omega arith))).1 o).1 (here, there))))
        (λ (le : length (text ++ more) ≤ o.end). let w = occurs.within.2 in omega arith)
        (cases_lt o.end (length (text ++ more)))

-- the front of a text's listing stays the front, however the text goes on
pub listing-begins : (m : Dictionary) (text more : List ℕ) (given rest : List Occurrence)
    → listing m text ≡ given ++ rest → IsBeginning given (listing m (text ++ more))
listing-begins m text more given rest is =
    let begins = (whole-overlapping_begins m text more false).0 in
    (rest ++ begins.0, begins.1 ∙ ap (λ l. l ++ begins.0) is ∙ append_assoc given rest begins.0)

-- no element of a rising list stands in it twice
rises-apart : (xs ys : List Occurrence) → IsRising (xs ++ ys) → (o : Occurrence) → Contains xs o → ¬ Contains ys o
rises-apart [] ys rises o here there = Contains-nil here
rises-apart (x ∷ xs) ys rises o here there = ⊎_elim
    (λ (same : x ≡ o). IsRising-once x (xs ++ ys) rises
    (subst (Contains (xs ++ ys)) (sym same) (Contains-append_right xs ys o there)))
    (λ rest. rises-apart xs ys (IsRising-tail x (xs ++ ys) rises) o rest there)
    (Contains-cases xs here)

-- the occurrences that a state's list tells end where the text does
ending-end : (m : Dictionary) (text ns : List ℕ) (o : Occurrence) → Contains (map (ending m text) ns) o
    → o.end ≡ length text
ending-end m text [] o c = absurd (Contains-nil c)
ending-end m text (n ∷ ns) o c = ⊎_elim
    (λ (same : ending m text n ≡ o). ap (λ p. p.end) (sym same))
    (λ rest. ending-end m text ns o rest)
    (Contains-cases (map (ending m text) ns) c)

-- Some occurrences of a text were returned, and the others of it end where it does.
module _ (m : Dictionary) (text more : List ℕ) (given left : List Occurrence) (is : listing m text ≡ given ++ left)
    (ends : (o : Occurrence) → Contains left o → o.end ≡ length text) where
  -- those that were returned end within it
  pub given-within : (o : Occurrence) → Contains given o → o.end ≤ length text
  given-within o here =
      let occurs : Occurs (whole m text false) o = ((listing-lists m text).1 o).0
      (subst (λ os. Contains os o) (sym is) (Contains-append_left given left o here)) in
      occurs.within.2

  -- whatever follows, all others end where it does or later
  pub rest-later : (rest : List Occurrence) → listing m (text ++ more) ≡ given ++ rest → (o : Occurrence)
      → Contains rest o → length text ≤ o.end
  rest-later rest all o there = ⊎_elim
      (λ (early : o.end < length text).
      let longer = listing-lists m (text ++ more) in
      let both = length-append text more in
      let occurs : Occurs (whole m (text ++ more) false) o =
      (longer.1 o).0 (subst (λ os. Contains os o) (sym all) (Contains-append_right given rest o there)) in
      let here : Occurs (whole m text false) o = longer-occurs more (omega arith) (omega arith) occurs in
      let listed = subst (λ os. Contains os o) is (((listing-lists m text).1 o).1 here) in
      absurd (⊎_elim
      (λ (again : Contains given o). rises-apart given rest (subst IsRising all longer.0) o again there)
      (λ (last : Contains left o). let e = ends o last in omega arith)
      (Contains-append_cases given left o listed)))
      (λ (le : length text ≤ o.end). le)
      (cases_lt o.end (length text))

-- where all of some occurrences end within a number of bytes, so does the last
ends-within : (os : List Occurrence) (n : ℕ) → ((o : Occurrence) → Contains os o → o.end ≤ n) → end_of os ≤ n
ends-within [] n within = omega arith
ends-within (o ∷ []) n within = within o (Contains-head [])
ends-within (o ∷ (next ∷ os)) n within = ends-within (next ∷ os) n (λ p c. within p (Contains-tail (next ∷ os) c))

-- ---- the list of a state

-- an entry at an index is in the list
entry-in : (ns : List ℕ) (index n : ℕ) → slice_get ns index ≡ Some n → Contains ns n
entry-in [] index n e = absurd (omega (arith, slice_get_within [] index n e))
entry-in (x ∷ xs) zero n e = let same : x ≡ n = get_or_from_slice_get (x ∷ xs) 0 n n e in
    subst (Contains (x ∷ xs)) same (Contains-head xs)
entry-in (x ∷ xs) (suc index) n e = Contains-tail xs (entry-in xs index n e)

Contains-ending : (m : Dictionary) (text ns : List ℕ) (n : ℕ) → Contains ns n
    → Contains (map (ending m text) ns) (ending m text n)
Contains-ending m text [] n c = absurd (Contains-nil c)
Contains-ending m text (x ∷ xs) n c = ⊎_elim
    (λ (same : x ≡ n). subst (λ y. Contains (ending m text x ∷ map (ending m text) xs) (ending m text y)) same
    (Contains-head (map (ending m text) xs)))
    (λ rest. Contains-tail (map (ending m text) xs) (Contains-ending m text xs n rest))
    (Contains-cases xs c)

-- an entry occurs at the end of the text, and is no longer than it
pub entry-occurs : (m : Dictionary) (text ns : List ℕ) (index n : ℕ) → m.kind ≡ Standard → Tells m No text ns
    → slice_get ns index ≡ Some n
    → Occurs (whole m text false) (ending m text n) × (length (get_or m.patterns n []) ≤ length text)
entry-occurs m text ns index n standard tells e =
    let told = told-all m text ns standard tells in
    let occurs : Occurs (whole m text false) (ending m text n) =
    ((told.1 (ending m text n)).0 (Contains-ending m text ns n (entry-in ns index n e))).0 in
    let end = occurs-end (omega arith) occurs in
    let same : get_or m.patterns n [] ≡ end.0 = get_or_from_slice_get m.patterns n end.0 [] end.1 in
    let k : length (get_or m.patterns n []) ≡ length end.0 = ap length same in
    let all : length text ≡ (length text - length (get_or m.patterns n [])) + length end.0 = end.2 in
    (occurs, omega arith)

-- ---- where a search stands

-- the text that was searched, and what is left to search
pub searched-rest : (s : StreamProgress Occurrences) → searched_by s ++ drop s.at (read_by s) ≡ read_by s
searched-rest s = take-append-drop s.at (read_by s)

pub searched-long : (s : StreamProgress Occurrences) → s.at ≤ length (read_by s) → length (searched_by s) ≡ s.at
searched-long s le = length-take-le s.at (read_by s) le

-- looks for the bytes searched, and for those read ahead, are within the budget
pub budget : (deterministic : Bool) (looked less ahead live at all : ℕ) → looked ≤ less + ahead → less + live ≤ 2 * at
    → (IsTrue deterministic → less ≤ at) → at + ahead ≤ all → ahead ≤ most_ahead
    → (looked ≤ lookups_per_byte deterministic * all) × (looked ≤ lookups_per_byte deterministic * at + most_ahead)
budget true looked less ahead live at all counted bound one within few = let e = one refl in (omega arith, omega arith)
budget false looked less ahead live at all counted bound one within few = (omega arith, omega arith)

-- What holds of a search for every occurrence, apart from what it has returned and looked at.
pub record IsListingCourse (s : StreamProgress Occurrences) : Type 0 where
  pub standard : s.built.dictionary.kind ≡ Standard
  pub filled : 1 ≤ shortest s.built.dictionary.patterns
  pub unclosed : s.closed ≡ false
  pub passed : s.last ≡ s.at
  pub within : s.at ≤ length (read_by s)
  pub behind : s.from ≤ s.at
  pub room : length (read_by s) ≤ s.from + least_room
  pub short : AllFit least_room s.pieces
  pub scanned : s.scanned ≡ 0
  pub moved : s.moved ≡ 0

-- it holds wherever such a search is on its course
pub listing-course_of : {s : StreamProgress Occurrences} → IsOnCourse s → IsListingCourse s
listing-course_of course = record {
  standard = course.standard refl;
  filled = course.filled;
  unclosed = course.unclosed (course.standard refl);
  passed = course.passed refl;
  within = course.ordered.1;
  behind = course.kept.1;
  room = course.kept.2;
  short = course.short;
  scanned = course.paid.scanned;
  moved = course.paid.unmoved refl;
}

-- the looks for the bytes searched, and for those that are live
abbrev pub PaysForSearched : StreamProgress Occurrences → Type 0
PaysForSearched s =
    (live : Option ℕ) → IsLive s.built.dictionary false (searched_by s) live
    → (s.looked + live_len (searched_by s) live ≤ 2 * s.at) × (s.at ≤ s.looked)
    × (IsTrue s.built.deterministic → s.looked ≤ s.at)

-- under standard no byte is looked at again
pub all-paid : (s : StreamProgress Occurrences) → s.built.dictionary.kind ≡ Standard
    → s.looked ≤ lookups_per_byte s.built.deterministic * length (read_by s)
    → s.looked ≤ lookups_per_byte s.built.deterministic * read_in_all s
all-paid s standard few = subst (λ n. s.looked ≤ lookups_per_byte s.built.deterministic * n) (sym none) few
  where
    none : read_in_all s ≡ length (read_by s)
    none = ap
        (λ k. length (read_by s) + again_for k (longest s.built.dictionary.patterns) 0 (length s.given)) standard ∙ add-zero _

-- Where a search stands: what it has returned, with the rest of the state's list, is all that it has searched.
module _ (s : StreamProgress Occurrences) (is : IsListingCourse s) (rest : List Occurrence)
    (left : listing s.built.dictionary (searched_by s) ≡ s.given ++ rest)
    (ends : (o : Occurrence) → Contains rest o → o.end ≡ length (searched_by s)) where
  -- whatever is still read, what was returned comes first, and the rest ends after what was searched
  listing-decided : IsDecided s
  listing-decided more follows =
      let m = s.built.dictionary in
      let x = read_by s in
      let text = searched_by s in
      let long = searched-long s is.within in
      let split : x ++ more ≡ text ++ (drop s.at x ++ more) = ap (λ l. l ++ more) (sym (searched-rest s))
      ∙ append_assoc text (drop s.at x) more in
      let begins = listing-begins m text (drop s.at x ++ more) s.given rest left in (
        begins.0,
        ap (listing m) split ∙ begins.1,
        λ k d lt.
            let later = rest-later m text (drop s.at x ++ more) s.given rest left ends begins.0 begins.1
            (slice_index_or begins.0 k d) (All-contains_itself begins.0 k d lt) in
            let z : cut_of s ≤ (slice_index_or begins.0 k d).end = let passed = is.passed in omega arith in
            z,
      )

  -- so the search is on its course
  listing-on : PaysForSearched s → IsOnCourse s
  listing-on lookups =
      let x = read_by s in
      let long = searched-long s is.within in
      let passed = is.passed in
      let within = is.within in
      let behind = is.behind in
      let rest_of = listing-decided [] (λ _. refl) in
      let live = live-some in
      let paid = lookups live.0 live.1 in
      let budgeted = budget s.built.deterministic s.looked s.looked 0 (live_len (searched_by s) live.0) s.at (length x)
      (omega arith) paid.0 paid.2 (omega arith) (omega arith) in
      record {
        standard = λ _. is.standard;
        passed = λ _. is.passed;
        unclosed = λ _. is.unclosed;
        filled = is.filled;
        ordered = (omega arith, within);
        kept = (omega arith, behind, is.room);
        short = is.short;
        begun = (rest_of.0, ap (listing s.built.dictionary) (sym (append-nil x)) ∙ rest_of.1);
        ended = let ends_there = ends-within s.given (length (searched_by s))
            (given-within s.built.dictionary (searched_by s) [] s.given rest left ends) in omega arith;
        decided = listing-decided;
        paid = record {
          some = paid.1;
          looked = all-paid s is.standard budgeted.0;
          near = λ _. budgeted.1;
          scanned = is.scanned;
          moved = let none = is.moved in omega arith;
          unmoved = λ _. is.moved;
        };
      }

-- Where a search stands: its course, and the rest of its state's list.
pub stands-listing : (Reaches : List ℕ → StateID → Type 0) (matches : StateID → List ℕ)
    {s : StreamProgress Occurrences} (place : ListPlace) → IsListingCourse s → place.at ≡ s.at → place.from ≡ s.from
    → Reaches (searched_by s) place.sid
    → place.len ≡ length (matches place.sid) → place.len ≤ usize_max
    → listing s.built.dictionary (searched_by s)
    ≡ s.given ++ map (ending s.built.dictionary (searched_by s)) (drop place.index (matches place.sid))
    → PaysForSearched s
    → StandsInList Reaches matches s place
stands-listing Reaches matches {s} place is at from reads len few left lookups = record {
  course = listing-on s is (map (ending s.built.dictionary (searched_by s)) (drop place.index (matches place.sid))) left
      (ending-end s.built.dictionary (searched_by s) (drop place.index (matches place.sid))) lookups;
  at = at;
  from = from;
  reads = reads;
  len = len;
  few = few;
  left = left;
  lookups = lookups;
}

-- ---- the next entry of a state's list

-- where the search has come to the end of what was read, it has searched all of it
all-searched : (s : StreamProgress Occurrences) → s.at ≡ length (read_by s) → searched_by s ≡ read_by s
all-searched s is = ap (λ n. take n (read_by s)) is ∙ take-whole (read_by s)
  where
    take-whole : (l : List ℕ) → take (length l) l ≡ l
    take-whole [] = refl
    take-whole (x ∷ xs) = ap (λ l. x ∷ l) (take-whole xs)

-- a list isn't equal to a longer one that begins with it
not-more : (given : List Occurrence) (o : Occurrence) (rest : List Occurrence) → ¬ (given ≡ given ++ o ∷ rest)
not-more given o rest e = let long = ap length e in let both = length-append given (o ∷ rest) in omega arith

-- where an occurrence is left, not all were returned
not-all : (s : StreamProgress Occurrences) (o : Occurrence) (rest : List Occurrence)
    → s.built.dictionary.kind ≡ Standard → items_of Occurrences s.built.dictionary (searched_by s) ≡ s.given ++ o ∷ rest
    → ¬ AreAllGiven s
not-all s o rest standard left all =
    not-more s.given o rest
    (all.all (inl standard) ∙ ap (items_of Occurrences s.built.dictionary) (sym (all-searched s all.searched)) ∙ left)

-- a search that went on by so many looks, within what was read
goes-listing : {s : StreamProgress Occurrences} → IsListingCourse s → (given : List Occurrence) (at looks : ℕ)
    → s.at ≤ at → at ≤ length (read_by s) → IsListingCourse (record (listed_to s at looks) { given = given })
goes-listing is given at looks on within = record {
  standard = is.standard;
  filled = is.filled;
  unclosed = is.unclosed;
  passed = refl;
  within = within;
  behind = let behind = is.behind in omega arith;
  room = is.room;
  short = is.short;
  scanned = is.scanned;
  moved = is.moved;
}

-- it has read nothing
stays-listing : {s : StreamProgress Occurrences} → IsListingCourse s → (given : List Occurrence) (at looks : ℕ)
    → s.at ≤ at → ReadsNothing s (record (listed_to s at looks) { given = given })
stays-listing is given at looks on =
    record {
      on = λ _. on;
      last = let passed = is.passed in
          omega arith;
      closed = refl;
      built = refl;
      pieces = refl;
      from = refl;
    }

-- the next entry of a state's list, as the next occurrence
pub gives-next : {Reaches : List ℕ → StateID → Type 0} {matches : StateID → List ℕ} {b : Built}
    {s : StreamProgress Occurrences} {place : ListPlace} {held : List ℕ} (r : Listed) (n : ℕ) (y : Steps)
    → ((text : List ℕ) (sid : StateID) → Reaches text sid → Tells b.dictionary No text (matches sid))
    → IsListedAt b Reaches matches s place held
    → r.found ≡ Some (ending_at b.dictionary place.at n) → r.place ≡ record place { index = place.index + 1 }
    → slice_get (matches place.sid) place.index ≡ Some n → n < length b.dictionary.patterns
    → ListsOn Reaches matches s place r y y
gives-next {Reaches} {matches} {b} {s} {place} {held} r n y tells is found goes entry known =
    let stands = is.stands in
    let course = stands.course in
    let text : List ℕ = searched_by s in
    let ns : List ℕ = matches place.sid in
    let m = b.dictionary in
    let o : Occurrence = ending m text n in
    let long : length text ≡ place.at = searched-long s course.ordered.1 ∙ sym stands.at in
    let same : r.found ≡ Some o = found ∙ ap (λ k. Some (ending_at m k n)) (sym long) in
    let standard : m.kind ≡ Standard = subst (λ b. b.dictionary.kind ≡ Standard) is.built (course.standard refl) in
    let filled : 1 ≤ shortest m.patterns = subst (λ b. 1 ≤ shortest b.dictionary.patterns) is.built course.filled in
    let lies = entry-occurs m text ns place.index n standard (tells text place.sid stands.reads) entry in
    let some = occurs-some (omega arith) filled lies.0 in
    let rest : List Occurrence = map (ending m text) (drop (place.index + 1) ns) in
    let left : listing m text ≡ s.given ++ o ∷ rest =
    subst (λ b. listing b.dictionary text ≡ s.given ++ map (ending b.dictionary text) (drop place.index ns)) is.built
    stands.left
    ∙ ap (λ l. s.given ++ map (ending m text) l) (drop-at ns place.index n entry) in
    let there_left : listing s.built.dictionary text ≡ s.given ++ o ∷ rest =
    subst (λ b'. listing b'.dictionary text ≡ s.given ++ o ∷ rest) (sym is.built) left in
    let t : StreamProgress Occurrences = record (listed_to s r.place.at 0) { given = s.given ++ o ∷ [] } in
    let after : after_listed s r 0 ≡ t =
    ap (λ f. record (listed_to s r.place.at 0) { given = s.given ++ some_of f }) same in
    let at : r.place.at ≡ s.at = ap (λ p. p.at) goes ∙ stands.at in
    let text_same : searched_by t ≡ text = ap (λ k. take k (read_by s)) at in
    let sid : r.place.sid ≡ place.sid = ap (λ p. p.sid) goes in
    let index : r.place.index ≡ place.index + 1 = ap (λ p. p.index) goes in
    let ns_same : matches r.place.sid ≡ ns = ap matches sid in
    let from : r.place.from ≡ place.from = ap (λ p. p.from) goes in
    let there : StandsInList Reaches matches t r.place =
    stands-listing Reaches matches r.place
    (goes-listing (listing-course_of course) (s.given ++ o ∷ []) r.place.at 0 (omega arith)
    (let within = course.ordered.1 in omega arith)) refl (from ∙ stands.from)
    (subst (Reaches (searched_by t)) (sym sid) (subst (λ l. Reaches l place.sid) (sym text_same) stands.reads))
    (ap (λ p. p.len) goes ∙ stands.len ∙ ap length (sym ns_same))
    (let e = ap (λ p. p.len) goes in omega (arith, e, stands.few))
    (subst (λ b'. listing b'.dictionary (searched_by t)
    ≡ (s.given ++ o ∷ []) ++ map (ending b'.dictionary (searched_by t)) (drop r.place.index (matches r.place.sid)))
    (sym is.built)
    (subst (λ l. listing m l ≡ (s.given ++ o ∷ []) ++ map (ending m l) (drop r.place.index (matches r.place.sid)))
    (sym text_same)
    (subst (λ l. listing m text ≡ (s.given ++ o ∷ []) ++ map (ending m text) (drop r.place.index l)) (sym ns_same)
    (subst (λ k. listing m text ≡ (s.given ++ o ∷ []) ++ map (ending m text) (drop k ns)) (sym index)
    (left ∙ sym (append_assoc s.given (o ∷ []) rest))))))
    (λ live alive. let old = stands.lookups live
    (subst (λ l. IsLive s.built.dictionary false l live) text_same alive) in
    let e = ap (λ l. live_len l live) text_same in
    (omega (arith, old.0, e, at), omega (arith, old.1, at), λ d. omega (arith, old.2 d, at))) in
    let ends : r.place.at ≡ o.end = at ∙ sym stands.at ∙ sym long in
    record {
      looks = 0;
      done = record { looked = omega arith; scanned = omega arith; moved = omega arith };
      from = from;
      finds = subst (λ u. FindsHeld s r.found u) (sym after)
          (subst (λ f. FindsHeld s f t) (sym same) (
            stays-listing (listing-course_of course) (s.given ++ o ∷ []) r.place.at 0 (omega (arith, at)),
            refl,
            ends,
            ends,
            record {
              pattern = subst (λ b'. n < length b'.dictionary.patterns) (sym is.built) known;
              held = λ apart. absurd apart;
              behind = let passed = course.passed refl in omega (arith, passed, ends, at);
              some = some;
              new = λ e. absurd (occurrences≢picks e);
              past = λ _ all. absurd (not-more s.given o rest (all ∙ there_left));
              within = omega (arith, long, stands.at, course.ordered.1);
            },
            is.countable,
            not-all s o rest (course.standard refl) there_left,
          ));
      stands = subst (λ u. StandsInList Reaches matches u r.place) (sym after) there;
    }

-- ---- reading on

-- the list of a state that doesn't match is empty
unmatched : (ns : List ℕ) → ¬ IsTrue (has_some ns) → ns ≡ []
unmatched [] none = refl
unmatched (n ∷ ns) none = absurd (none refl)

-- the list of a state that matches isn't empty
matched : (ns : List ℕ) → IsTrue (has_some ns) → 0 < length ns
matched [] e = absurd (false≢true e)
matched (n ∷ ns) e = omega arith

-- the held bytes from a place on are those that are left to search
held-rest : (x held : List ℕ) (from at : ℕ) → held ≡ drop from x → from ≤ at → drop (at - from) held ≡ drop at x
held-rest x held from at is le =
    let e : from + (at - from) ≡ at = omega arith in
    ap (drop (at - from)) is ∙ drop-drop (at - from) from x ∙ ap (λ k. drop k x) e

-- where nothing is left to search, the search stays where it stands
pub reads-nothing : (Reaches : List ℕ → StateID → Type 0) (matches : StateID → List ℕ) (b : Built)
    (s : StreamProgress Occurrences) (place : ListPlace) (held : List ℕ) (y : Steps)
    → IsListedAt b Reaches matches s place held → place.len ≤ place.index → place.at - place.from ≡ length held
    → HasReadHeld Reaches matches s place place y y
reads-nothing Reaches matches b s place held y is given none =
    let stands = is.stands in
    let x : List ℕ = read_by s in
    let long : length held ≡ length x - place.from = ap length is.bytes ∙ length-drop place.from x in
    let t : StreamProgress Occurrences = listed_to s place.at 0 in
    let looked : s.looked ≡ s.looked + 0 = omega arith in
    let last : s.last ≡ place.at = stands.course.passed refl ∙ sym stands.at in
    let same : s ≡ t = λ i. record s { at = sym stands.at i; last = last i; looked = looked i } in
    record {
      looks = 0;
      done = record { looked = omega arith; scanned = omega arith; moved = omega arith };
      from = refl;
      on = omega (arith, stands.at);
      stands = subst (λ u. StandsInList Reaches matches u place) same stands;
      further = λ more. absurd (omega (arith, given, more));
      all = λ _. omega (arith, none, long, stands.from, stands.at, stands.course.ordered.1, stands.course.kept.1);
    }

-- the search reads on to the next state that matches, or to the last byte
pub reads-on : (Reaches : Anchored → List ℕ → StateID → Type 0) (matches : StateID → List ℕ) (b : Built)
    (s : StreamProgress Occurrences) (place : ListPlace) (held : List ℕ) (stop : Advance) (len : ℕ) (y z : Steps)
    → ((text : List ℕ) (sid : StateID) → Reaches No text sid → Tells b.dictionary No text (matches sid))
    → IsListedAt b (Reaches No) matches s place held → place.len ≤ place.index → ¬ (place.at - place.from ≡ length held)
    → AdvancesToMatch (Reaches No) matches place.sid (drop (place.at - place.from) held) stop
    → IsReadCost b Reaches No place.sid (take stop.taken (drop (place.at - place.from) held)) y z
    → len ≡ length (matches stop.sid) → len ≤ usize_max
    → HasReadHeld (Reaches No) matches s place
    (record { sid = stop.sid; from = place.from; at = place.at + stop.taken; index = 0; len = len }) y z
reads-on Reaches matches b s place held stop len y z tells is given some goes cost numbered few =
    let stands = is.stands in
    let course = stands.course in
    let m = b.dictionary in
    let x : List ℕ = read_by s in
    let text : List ℕ = searched_by s in
    let rest : List ℕ = drop s.at x in
    let there : ListPlace =
    record { sid = stop.sid; from = place.from; at = place.at + stop.taken; index = 0; len = len } in
    let standard : m.kind ≡ Standard = subst (λ b. b.dictionary.kind ≡ Standard) is.built (course.standard refl) in
    let left_is : drop (place.at - place.from) held
    ≡ rest = held-rest x held place.from place.at is.bytes
    (let behind = course.kept.1 in omega (arith, stands.from, stands.at)) ∙ ap (λ k. drop k x) stands.at in
    let held_long : length held ≡ length x - place.from = ap length is.bytes ∙ length-drop place.from x in
    let rest_long : length rest ≡ length x - s.at = length-drop s.at x in
    let left : 0 < length rest =
    omega (arith, some, held_long, rest_long, stands.from, stands.at, course.ordered.1, course.kept.1) in
    let on : AdvancesToMatch (Reaches No) matches place.sid rest stop =
    subst (λ l. AdvancesToMatch (Reaches No) matches place.sid l stop) left_is goes in
    let fits = on.taken.0 in
    let more_some = on.taken.1 left in
    let more : List ℕ = take stop.taken rest in
    let long : length more ≡ stop.taken = length-take-le stop.taken rest fits in
    let paid : IsReadCost b Reaches No place.sid more y z =
    subst (λ l. IsReadCost b Reaches No place.sid (take stop.taken l) y z) left_is cost in
    let at : there.at ≡ s.at + stop.taken = ap (λ k. k + stop.taken) stands.at in
    let then : take there.at x ≡ text ++ more = ap (λ k. take k x) at ∙ take-add s.at stop.taken x in
    let reads : Reaches No (text ++ more) stop.sid = on.reads text stands.reads in
    let quiet : (k : ℕ) → 0 < k → k < length more → Tells m No (text ++ take k more) [] = λ k from to.
    let mid = on.plain k from (omega (arith, to, long)) in
    let here : take k more ≡ take k rest = take-take k stop.taken rest (omega (arith, to, long)) in
    subst (λ ns. Tells m No (text ++ take k more) ns) (unmatched (matches mid.0) mid.2)
    (subst (λ l. Tells m No (text ++ l) (matches mid.0)) (sym here)
    (tells (text ++ take k rest) mid.0 (mid.1 text stands.reads))) in
    let before : listing m text ≡ s.given =
    subst (λ b. listing b.dictionary text
    ≡ s.given ++ map (ending b.dictionary text) (drop place.index (matches place.sid))) is.built stands.left
    ∙ ap (λ l. s.given ++ map (ending m text) l)
    (drop_of_length-le (matches place.sid) (omega (arith, given, stands.len))) ∙ append-nil s.given in
    let all : listing m (text ++ more) ≡ s.given ++ map (ending m (text ++ more)) (drop 0 (matches stop.sid)) =
    listing-more m text more (matches stop.sid) standard (omega (arith, long, more_some))
    (tells (text ++ more) stop.sid reads) quiet
    ∙ ap (λ l. l ++ map (ending m (text ++ more)) (drop 0 (matches stop.sid))) before in
    let alive = live-some in
    let alive_then = live-some in
    let done = paid text alive.0 alive_then.0 stands.reads alive.1 alive_then.1 in
    let looks : ℕ = z.looked.value - y.looked.value in
    let t : StreamProgress Occurrences = listed_to s there.at looks in
    let looked : z.looked.value ≡ y.looked.value + looks = omega (arith, done.some) in
    record {
      looks = looks;
      done = record { looked = looked; scanned = omega (arith, done.scanned); moved = omega (arith, done.moved) };
      from = refl;
      on = omega (arith, at);
      stands = stands-listing (Reaches No) matches there
          (goes-listing (listing-course_of course) s.given there.at looks (omega (arith, at))
          (omega (arith, at, fits, rest_long, course.ordered.1)))
          refl stands.from (subst (λ l. Reaches No l stop.sid) (sym then) reads) numbered few
          (subst (λ b. listing b.dictionary (take there.at x)
          ≡ s.given ++ map (ending b.dictionary (take there.at x)) (drop 0 (matches stop.sid))) (sym is.built)
          (subst (λ l. listing m l ≡ s.given ++ map (ending m l) (drop 0 (matches stop.sid))) (sym then) all))
          (λ live_then is_then.
          let now : IsLive m false (text ++ more) live_then = subst
          (λ b. IsLive b.dictionary false (text ++ more) live_then) is.built
          (subst (λ l. IsLive s.built.dictionary false l live_then) then is_then) in
          let old : (s.looked + live_len text alive.0 ≤ 2 * s.at) × (s.at ≤ s.looked)
          × (IsTrue s.built.deterministic → s.looked ≤ s.at) =
          stands.lookups alive.0 (subst (λ b. IsLive b.dictionary false text alive.0) (sym is.built) alive.1) in
          let cost_now = paid text alive.0 live_then stands.reads alive.1 now in
          let e = ap (λ l. live_len l live_then) then in (
            omega (arith, old.0, cost_now.bound, e, at, long, looked),
            omega (arith, old.1, cost_now.some, at, long, looked),
            λ d. omega
                (arith, old.2 d, cost_now.one (subst (λ b. IsTrue b.deterministic) is.built d), at, long, looked),
          ));
      further = λ _. omega (arith, at, more_some);
      all = λ none. ⊎_elim
          (λ (open_ : stop.taken < length rest). let has = matched (matches stop.sid) (on.stops open_) in
          absurd (omega (arith, has, none, numbered)))
          (λ (end : length rest ≤ stop.taken). omega (arith, end, fits, at, rest_long, course.ordered.1))
          (cases_lt stop.taken (length rest));
    }

-- ---- the next occurrence

-- where a search stands after reading on
pub listed-there : {Reaches : List ℕ → StateID → Type 0} {matches : StateID → List ℕ} {b : Built}
    {s : StreamProgress Occurrences} {place there : ListPlace} {held : List ℕ} {y z : Steps}
    → IsListedAt b Reaches matches s place held → (on : HasReadHeld Reaches matches s place there y z)
    → IsListedAt b Reaches matches (listed_to s there.at on.looks) there held
listed-there {s} is on = record {
  built = is.built;
  stands = on.stands;
  bytes = is.bytes ∙ ap (λ k. drop k (read_by s)) (sym on.from);
  countable = is.countable;
}

-- the search reads on, and no occurrence is left
pub lists-none : (Reaches : List ℕ → StateID → Type 0) (matches : StateID → List ℕ) (s : StreamProgress Occurrences)
    (place there : ListPlace) (y z : Steps)
    → IsOnCourse s → HasReadHeld Reaches matches s place there y z → there.len ≤ there.index
    → ListsOn Reaches matches s place (record { place = there; found = None }) y z
lists-none Reaches matches s place there y z on_course on none =
    let t : StreamProgress Occurrences = (listed_to s there.at on.looks) in
    let r : Listed = record { place = there; found = None } in
    let given : s.given ++ [] ≡ s.given = append-nil s.given in
    let same : t ≡ after_listed s r on.looks = λ i. record t { given = sym given i } in
    let end : there.at ≡ length (read_by s) = on.all none in
    let m = s.built.dictionary in
    let x : List ℕ = read_by s in
    let text : searched_by t ≡ x = all-searched t end in
    let all : s.given ≡ listing m x =
    sym (append-nil s.given) ∙ ap (λ l. s.given ++ map (ending m (searched_by t)) l)
    (sym (drop_of_length-le (matches there.sid) (omega (arith, none, on.stands.len)))) ∙ sym on.stands.left
    ∙ ap (listing m) text in
    record {
      looks = on.looks;
      done = on.done;
      from = on.from;
      finds = (
        stays-listing (listing-course_of on_course) (s.given ++ []) there.at on.looks on.on,
        given,
        λ few. record {
          searched = end;
          all = λ _. given ∙ all;
          open_ = λ dead. (dead-best dead).0 (on_course.standard refl);
          anew = λ _. refl;
        },
      );
      stands = subst (λ u. StandsInList Reaches matches u there) same on.stands;
    }

-- the search reads on, and its next occurrence is the first that ends there
pub lists-there : {Reaches : List ℕ → StateID → Type 0} {matches : StateID → List ℕ} {s : StreamProgress Occurrences}
    {place there : ListPlace} {r : Listed} (o : Occurrence) {y z : Steps} → IsOnCourse s
    → (on : HasReadHeld Reaches matches s place there y z) → there.index < there.len → r.found ≡ Some o
    → ListsOn Reaches matches (listed_to s there.at on.looks) there r z z → ListsOn Reaches matches s place r y z
lists-there {Reaches} {matches} {s} {there} {r} o on_course on more found gives =
    let u : StreamProgress Occurrences = (listed_to s there.at on.looks) in
    let none : gives.looks ≡ 0 = let d = gives.done.looked in omega arith in
    let looked : s.looked + on.looks + gives.looks ≡ s.looked + on.looks = omega (arith, none) in
    let same : after_listed u r gives.looks ≡ after_listed s r on.looks =
    λ i. record (after_listed s r on.looks) { looked = looked i } in
    let finds : FindsHeld u (Some o) (after_listed u r gives.looks) =
    subst (λ f. FindsHeld u f (after_listed u r gives.looks)) found gives.finds in
    let some = finds.4 in
    let behind : there.at ≤ o.end = some.behind in
    record {
      looks = on.looks;
      done = on.done;
      from = gives.from ∙ on.from;
      finds = subst (λ f. FindsHeld s f (after_listed s r on.looks)) (sym found) (
        stays-listing (listing-course_of on_course) (s.given ++ some_of r.found) r.place.at on.looks
            (let e = finds.3 in omega (arith, on.on, behind, e)),
        finds.1,
        finds.2,
        finds.3,
        record {
          pattern = some.pattern;
          held = λ apart. absurd apart;
          behind = let passed = on_course.passed refl in omega (arith, on.on, behind, passed);
          some = some.some;
          new = λ e. absurd (occurrences≢picks e);
          past = λ _ _. let far = on.further more in omega (arith, far, behind);
          within = some.within;
        },
        finds.5,
        λ all. finds.6 (record {
          searched = let e = all.searched in omega (arith, e, on.on, on.stands.course.ordered.1);
          all = all.all;
          open_ = all.open_;
          anew = λ _. refl;
        }),
      );
      stands = subst (λ v. StandsInList Reaches matches v r.place) same gives.stands;
    }
