-- What a search of a stream for every occurrence keeps between its calls stays right.
use Rattle.std.proofs.Common.{◌≡◌, ℕ, ◌+◌, ◌-◌, ◌≤◌, nat_lt, Bool, true, false, List, [], ◌∷◌, ◌++◌, length, take, drop, Option, None, Some, sym, ap, subst, refl, ◌∙◌, arith, append-nil, length-append, length-drop}
use Rattle.std.specs.List.{concat}
use Rattle.std.proofs.Math.Seq.{drop-append_seam, take-append_seam}
use Rattle.std.proofs.lemmas.Bool.{false≢true, ltb-false, ltb-true}
use Rattle.std.proofs.lemmas.List.{take-append-le}
use Rattle.std.proofs.lemmas.List.Elements.{All-push}
use Rattle.std.proofs.lemmas.List.Folds.{concat-append}
use Rattle.ac_input.specs.declared.search.Anchored.{Anchored}
use Rattle.ac_input.specs.declared.search.Anchored.TheVariants.{No}
use Rattle.ac_input.specs.declared.steps.Steps.{Steps}
use Rattle.ac_input.specs.Number.{usize_max, StateID}
use Rattle.ac_input.specs.Dictionary.{IsLive, live_len}
use Rattle.ac_input.specs.Occurrence.{Occurrence}
use Rattle.ac_input.specs.Steps.{Added, AreNone, Done}
use Rattle.ac_input.specs.Tells.{Tells, ending}
use Rattle.ac_automaton.specs.Ahead.{HasForgotten, IsPaid, bytes_ahead, less_ahead}
use Rattle.ac_automaton.specs.Automaton.{Built}
use Rattle.ac_automaton.specs.Stream.Devices.Buffer.{least_room}
use Rattle.ac_automaton.specs.Stream.Devices.Moved.{HasGiven}
use Rattle.ac_automaton.specs.Stream.{CanBeCounted, CanStream, FindsHeld, HasRead, IsOnCourse, IsSearched, Occurrences, StreamCounts, StreamProgress, fresh_progress, items_of, read_by}
use Rattle.ac_automaton.specs.Stream.Overlapping.Search.{IsListingSearch, ListsOn, after_listed, listing_at, searched_by}
use Rattle.std.specs.Prelude.{map, vec_len}
use Rattle.std.specs.Global.{Vec}
use Rattle.ac_input.specs.declared.history.Count.{Count}
use Rattle.ac_automaton.specs.Stream.Overlapping.Walk.{IsAheadFor}
use Rattle.ac_automaton.specs.declared.automaton.Automaton.{Ghosts}
use Rattle.ac_automaton.specs.declared.stream.overlapping.search.ListingSearch.TheInside.{Inside}
use Rattle.ac_automaton.specs.Stream.Search.{some_of}
use Rattle.ac_automaton.specs.declared.ahead.Ahead.{Ahead}
use Rattle.ac_automaton.specs.declared.stream.overlapping.search.ListPlace.{ListPlace}
use Rattle.ac_automaton.specs.declared.stream.overlapping.search.Listed.{Listed}
use Rattle.ac_automaton.specs.declared.stream.devices.watched.Watched.{Watched}
use Rattle.ac_automaton.specs.declared.stream.StreamKinds.TheVariants.{OnlyStandard}
use Rattle.ac_automaton.proofs.ahead.AheadLemmas.{ahead-forgotten, ahead-within, less-added}
use Rattle.ac_automaton.proofs.stream.StreamListingLemmas.{all-paid, budget, listing-first, stands-listing}
use Rattle.ac_automaton.proofs.stream.StreamAheadLemmas.{finds-counted}
use Rattle.ac_automaton.proofs.stream.StreamSearchLemmas.{added-done, recounted}
use Rattle.ac_input.proofs.lemmas.SomeLemmas.{live-some}

-- ---- the next occurrence

-- how far the search has come after a call, from what it keeps then
pub listed-view : (b : Built) (pieces : List (List ℕ)) (count : ℕ) (place : ListPlace) {sums : Steps} (r : Listed)
    {looks : ℕ} {more : Steps} (number : ℕ)
    → length (take count (items_of Occurrences b.dictionary (concat pieces))) ≡ count
    → IsOnCourse (after_listed (listing_at b pieces count place sums) r looks)
    → number ≡ count + length (some_of r.found)
    → Done looks 0 0 sums more
    → r.place.from ≡ place.from
    → listing_at b pieces number r.place more ≡ after_listed (listing_at b pieces count place sums) r looks
listed-view b pieces count place {sums} r {more} number is course numbered done from =
    let all : List Occurrence = items_of Occurrences b.dictionary (concat pieces) in
    let given : List Occurrence = take count all in
    let both = length-append given (some_of r.found) in
    let long : number ≡ length (given ++ some_of r.found) = omega (arith, both, numbered, is) in
    let begun = course.begun in
    let front : take number all ≡ given ++ some_of r.found = ap (λ n. take n all) long
    ∙ ap (take (length (given ++ some_of r.found))) begun.1 ∙ take-append_seam (given ++ some_of r.found) begun.0 in
    let scanned : more.scanned.value ≡ sums.scanned.value = omega (arith, done.scanned) in
    let moved : more.moved.value ≡ sums.moved.value = omega (arith, done.moved) in
    λ i. record {
      built = b;
      pieces = pieces;
      closed = false;
      given = front i;
      from = from i;
      at = r.place.at;
      last = r.place.at;
      looked = done.looked i;
      scanned = scanned i;
      moved = moved i;
    }

-- what the search keeps after a call is right
pub listed-right : {Reaches : List ℕ → StateID → Type 0} {matches : StateID → List ℕ} {s : StreamProgress Occurrences}
    {place : ListPlace} {count room : ℕ} {held : List ℕ} {filled : ℕ} {over : Bool} {r : Listed} {x y : Steps}
    (number : ℕ) → IsListingSearch Reaches matches s place count room held filled over
    → (on : ListsOn Reaches matches s place r x y)
    → number ≡ count + length (some_of r.found)
    → IsListingSearch Reaches matches (after_listed s r on.looks) r.place number room held filled over
listed-right {s} {r} number is on numbered = record {
  stands = on.stands;
  number = let both = length-append s.given (some_of r.found) in omega (arith, both, is.number, numbered);
  long = is.long;
  fits = is.fits;
  bytes = is.bytes ∙ ap (λ k. drop k (read_by s)) (sym on.from);
  countable = is.countable;
  uncountable = is.uncountable;
}

-- ---- at first

-- where a search stands that has read nothing
abbrev pub first_place : StateID → ℕ → ListPlace
first_place start len = record { sid = start; from = 0; at = 0; index = 0; len = len }

-- how far a search that has read nothing has come, from what it keeps
pub fresh-listing-view : (b : Built) (pieces : List (List ℕ)) (count : ℕ) (start : StateID) (len : ℕ) {sums : Steps}
    → pieces ≡ [] → count ≡ 0 → AreNone sums
    → listing_at b pieces count (first_place start len) sums ≡ fresh_progress b
fresh-listing-view b pieces count start len none zero_given no_sums = λ i. record {
  built = b;
  pieces = none i;
  closed = false;
  given = take (zero_given i) (items_of Occurrences b.dictionary (concat (none i)));
  from = 0;
  at = 0;
  last = 0;
  looked = no_sums.looked i;
  scanned = no_sums.scanned i;
  moved = no_sums.moved i;
}

-- nothing of an empty text is live
nothing-live : (live : Option ℕ) → live_len [] live ≡ 0
nothing-live None = refl
nothing-live (Some from) = omega arith

-- what a search that has read nothing keeps is right
pub fresh-listing-right : (b : Built) (supports : Anchored → Type 0) (Reaches : List ℕ → StateID → Type 0)
    (matches : StateID → List ℕ) (start : StateID) (len count room : ℕ)
    → CanStream OnlyStandard b supports → Reaches [] start → Tells b.dictionary No [] (matches start)
    → len ≡ length (matches start) → len ≤ usize_max → count ≡ 0 → room ≡ least_room
    → IsListingSearch Reaches matches (fresh_progress b) (first_place start len) count room [] 0 false
fresh-listing-right b supports Reaches matches start len count room can begins tells numbered few none long = record {
  stands = stands-listing Reaches matches (first_place start len)
      (record {
        standard = can.1;
        filled = can.2;
        unclosed = refl;
        passed = refl;
        within = omega arith;
        behind = omega arith;
        room = omega arith;
        short = λ k d lt. absurd (omega arith);
        scanned = refl;
        moved = refl;
      })
      refl refl begins numbered few
      (listing-first b.dictionary (matches start) can.1 tells)
      (λ one is. let e = nothing-live one in (omega (arith, e), omega arith, λ d. omega arith));
  number = sym none;
  long = long;
  fits = omega arith;
  bytes = refl;
  countable = λ e. omega arith;
  uncountable = λ e. absurd (false≢true e);
}

-- ---- a read

-- how far a search has come after a read, from the front of its buffer
abbrev pub after_reading : StreamProgress Occurrences → List ℕ → StreamProgress Occurrences
after_reading s piece = record s { pieces = s.pieces ++ piece ∷ []; from = s.at }

-- the bytes read after a read are those before it and the piece
pub reading-more : (s : StreamProgress Occurrences) (piece : List ℕ)
    → read_by (after_reading s piece) ≡ read_by s ++ piece
reading-more s piece = concat-append s.pieces (piece ∷ []) ∙ ap (λ l. read_by s ++ l) (append-nil piece)

-- how far the search has come after a read, from what it keeps then
pub reading-view : (b : Built) (pieces after : List (List ℕ)) (count : ℕ) (place : ListPlace) (sums : Steps)
    (piece : List ℕ)
    → length (take count (items_of Occurrences b.dictionary (concat pieces))) ≡ count
    → IsOnCourse (listing_at b pieces count place sums)
    → after ≡ pieces ++ piece ∷ []
    → listing_at b after count (record place { from = place.at }) sums
    ≡ after_reading (listing_at b pieces count place sums) piece
reading-view b pieces after count place sums piece number course is =
    let s : StreamProgress Occurrences = listing_at b pieces count place sums in
    let first = course.decided piece (λ e. absurd (false≢true e)) in
    let all : items_of Occurrences b.dictionary (concat after)
    ≡ s.given ++ first.0 = ap (λ l. items_of Occurrences b.dictionary (concat l)) is
    ∙ ap (items_of Occurrences b.dictionary) (reading-more s piece) ∙ first.1 in
    let front : take count (items_of Occurrences b.dictionary (concat after)) ≡ s.given = ap (take count) all
    ∙ ap (λ n. take n (s.given ++ first.0)) (sym number) ∙ take-append_seam s.given first.0 in
    λ i. record {
      built = b;
      pieces = is i;
      closed = false;
      given = front i;
      from = place.at;
      at = place.at;
      last = place.at;
      looked = sums.looked.value;
      scanned = sums.scanned.value;
      moved = sums.moved.value;
    }

-- What the search keeps after a read is right, and `over` is true exactly where there are more bytes than places.
pub reading-right : {Reaches : List ℕ → StateID → Type 0} {matches : StateID → List ℕ}
    {s : StreamProgress Occurrences} {place : ListPlace} {count room : ℕ} {held : List ℕ} {filled : ℕ} {was : Bool}
    (over : Bool) (room_after : ℕ) (piece now : List ℕ) (n : ℕ)
    → IsListingSearch Reaches matches s place count room held filled was → s.at ≡ length (read_by s)
    → length piece ≡ n → n ≤ room → now ≡ piece → room_after ≡ room
    → (over ≡ false → CanBeCounted (read_by s ++ piece)) × (over ≡ true → ¬ CanBeCounted (read_by s ++ piece))
    → IsListingSearch Reaches matches (after_reading s piece) (record place { from = place.at }) count room_after now n
    over
reading-right {Reaches} {matches} {s} {place} {room} {filled} over room_after piece now n is searched long fits
    holds same test =
    let stands = is.stands in
    let course = stands.course in
    let t : StreamProgress Occurrences = after_reading s piece in
    let there : ListPlace = record place { from = place.at } in
    let more = reading-more s piece in
    let both = length-append (read_by s) piece in
    let all = ap length more in
    let text : searched_by t ≡ searched_by s = ap (take s.at) more
    ∙ take-append-le s.at (read_by s) piece course.ordered.1 in
    let m = s.built.dictionary in
    let start : place.at ≡ length (read_by s) = stands.at ∙ searched in
    record {
      stands = stands-listing Reaches matches there
          (record {
            standard = course.standard refl;
            filled = course.filled;
            unclosed = course.unclosed (course.standard refl);
            passed = course.passed refl;
            within = omega (arith, course.ordered.1, both, all);
            behind = omega arith;
            room = let few = is.long in omega (arith, long, fits, searched, both, all, few);
            short = All-push (λ l. length l ≤ least_room) s.pieces piece course.short
                (omega (arith, long, fits, is.long));
            scanned = course.paid.scanned;
            moved = course.paid.unmoved refl;
          })
          stands.at stands.at (subst (λ l. Reaches l place.sid) (sym text) stands.reads) stands.len stands.few
          (subst (λ l. items_of Occurrences s.built.dictionary l
          ≡ s.given ++ map (ending m l) (drop place.index (matches place.sid))) (sym text) stands.left)
          (λ one alive. let old = stands.lookups one (subst (λ l. IsLive m false l one) text alive) in
          let e = ap (λ l. live_len l one) text in (omega (arith, old.0, e), old.1, old.2));
      number = is.number;
      long = same ∙ is.long;
      fits = omega (arith, fits, same);
      bytes = holds
          ∙ sym (ap (λ k. drop k (read_by t)) start ∙ ap (drop (length (read_by s))) more
          ∙ drop-append_seam (read_by s) piece);
      countable = λ e. subst CanBeCounted (sym more) (test.0 e);
      uncountable = λ e. subst (λ l. ¬ CanBeCounted l) (sym more) (test.1 e);
    }

-- the test for more bytes than places
pub reading-test : (x piece : List ℕ) (at n : ℕ) → at ≤ usize_max → at ≡ length x → length piece ≡ n
    → (nat_lt (usize_max - at) n ≡ false → CanBeCounted (x ++ piece))
    × (nat_lt (usize_max - at) n ≡ true → ¬ CanBeCounted (x ++ piece))
reading-test x piece at n fits is long =
    let both = length-append x piece in (
      λ e. let le = ltb-false (usize_max - at) n e in omega arith,
      λ e few. let lt = ltb-true (usize_max - at) n e in
          omega arith,
    )

-- ---- with what was read ahead

-- a search that has counted nothing has counted nothing for the bytes searched
pub less-none : {sums : Steps} (ahead : Ahead) → AreNone sums → AreNone (less_ahead sums ahead)
less-none ahead none = record { looked = omega (arith, none.looked); scanned = none.scanned; moved = none.moved }

-- how far a search has come, from what it keeps
abbrev pub listed_by : {S : Type 0} → Ghosts S → Inside S → StreamProgress Occurrences
listed_by A i = listing_at (A.built i.automaton.now) i.pieces.items i.given.value i.place i.sums

-- what the search keeps is right, what was read ahead of it left aside
abbrev pub IsListingSettled : {S : Type 0} → Ghosts S → Inside S → Type 0
IsListingSettled A i =
    IsListingSearch (A.Reaches i.automaton.now No) (A.matches i.automaton.now)
    (listed_by A (record i { sums = less_ahead i.sums i.ahead })) i.place i.given.value (vec_len i.bytes)
    (take i.filled i.bytes.items) i.filled i.over

-- what a search keeps is right: how far it has come, with what was read ahead of it
abbrev pub IsListingKept : {S : Type 0} → Ghosts S → Inside S → Type 0
IsListingKept A i =
    IsOnCourse (listed_by A i) × IsListingSettled A i
    × IsAheadFor A i.automaton.now (take i.filled i.bytes.items) i.place i.ahead
    × (bytes_ahead i.ahead ≤ i.sums.looked.value)

-- what a search has counted for the bytes searched, and for those read ahead, is within its budget
listing-kept : {S : Type 0} (A : Ghosts S) (i : Inside S)
    → IsListingSettled A i
    → IsAheadFor A i.automaton.now (take i.filled i.bytes.items) i.place i.ahead
    → bytes_ahead i.ahead ≤ i.sums.looked.value
    → IsListingKept A i
listing-kept A i is known made =
    let s = listed_by A i in
    let place = i.place in
    let stands = is.stands in
    let course = stands.course in
    let live = live-some in
    let paid = stands.lookups live.0 live.1 in
    let long : length (take i.filled i.bytes.items) ≡ length (read_by s) - place.from = ap length is.bytes
    ∙ length-drop place.from (read_by s) in
    let ordered = course.ordered in
    let from = course.kept.1 in
    let within = ahead-within (course.standard refl) (omega (arith, long, ordered.1, from)) known in
    let few = budget s.built.deterministic s.looked (s.looked - bytes_ahead i.ahead) (bytes_ahead i.ahead)
    (live_len (take place.at (read_by s)) live.0) place.at (length (read_by s)) (omega arith) paid.0 paid.2
    (omega (arith, long, ordered.1, from, within.0)) within.1 in (
      recounted course
          (record {
            some = omega (arith, paid.1);
            looked = all-paid s (course.standard refl) few.0;
            near = λ _. few.1;
            scanned = course.paid.scanned;
            moved = course.paid.moved;
            unmoved = course.paid.unmoved;
          }),
      is,
      known,
      made,
    )

-- what a search keeps after a call with this result
abbrev pub listed_to_inside : {S : Type 0} → Inside S → Listed → Count → Steps → Ahead → Inside S
listed_to_inside i r given sums ahead = record i { place = r.place; given = given; sums = sums; ahead = ahead }

-- After a call that went on: what the search keeps is right, and it returned the next occurrence or none, at this cost.
pub record HasListed {S : Type 0} (A : Ghosts S) (i j : Inside S) (found : Option Occurrence)
    (before after : Steps) : Type 0 where
  pub kept : IsListingKept A j
  pub finds : FindsHeld (listed_by A i) found (listed_by A j)
  pub counts : StreamCounts (listed_by A i) (listed_by A j) before after

pub listed-ahead : {S : Type 0} (A : Ghosts S) (i : Inside S) (r : Listed) (given : Count) (now : Ahead)
    (more : Steps) {fresh : Steps} (taken before after : Steps) → IsListingKept A i
    → IsPaid i.ahead now taken
    (λ paid. ListsOn (A.Reaches i.automaton.now No) (A.matches i.automaton.now)
    (listed_by A (record i { sums = less_ahead i.sums i.ahead })) i.place r fresh paid)
    → IsAheadFor A i.automaton.now (take i.filled i.bytes.items) r.place now
    → given.value ≡ i.given.value + length (some_of r.found)
    → AreNone fresh → Added taken before after → Added taken i.sums more
    → HasListed A i (listed_to_inside i r given more now) r.found before after
listed-ahead A i r given now more {fresh} taken before after is paid known numbered none added summed =
    let j = listed_to_inside i r given more now in
    let a = i.automaton.now in
    let settled = is.1 in
    let on = paid.2 in
    let less = less-added none paid.1 summed is.3 in
    let s : StreamProgress Occurrences = listed_by A (record i { sums = less_ahead i.sums i.ahead }) in
    let t : StreamProgress Occurrences = listed_by A (record j { sums = less_ahead more now }) in
    let done = added-done (less_ahead i.sums i.ahead) (less_ahead more now) none on.done less.0 in
    let view : t ≡ after_listed s r on.looks =
    listed-view (A.built a) i.pieces.items i.given.value i.place r given.value settled.number on.stands.course numbered
    done on.from in
    let right = subst (λ u. IsListingSearch (A.Reaches a No) (A.matches a) u r.place given.value (vec_len i.bytes)
    (take i.filled i.bytes.items) i.filled i.over) (sym view)
    (listed-right given.value settled on numbered) in
    record {
      kept = listing-kept A j right known less.1;
      finds = finds-counted s t i.sums.looked.value more.looked.value r.found
          (subst (λ u. FindsHeld s r.found u) (sym view) on.finds);
      counts = (
        taken.looked.value,
        taken.scanned.value,
        taken.moved.value,
        record { looked = added.looked; scanned = added.scanned; moved = added.moved },
        summed.looked,
        summed.scanned,
        summed.moved,
      );
    }

-- where all was searched, the search stands at the end of the bytes of the last read
at-end : (pieces : List (List ℕ)) (place : ListPlace) (held : List ℕ) → held ≡ drop place.from (concat pieces)
    → place.at ≡ length (concat pieces) → place.at - place.from ≡ length held
at-end pieces place held is searched = let long = ap length is ∙ length-drop place.from (concat pieces) in
    omega (arith, long, searched)

-- what a search keeps after a read of the first bytes of its buffer
abbrev pub read_to : {S : Type 0} → Inside S → List (List ℕ) → Vec ℕ → ℕ → Bool → Ahead → Inside S
read_to i all bytes filled over ahead =
    record i {
      pieces = record i.pieces { items = all };
      place = record i.place { from = i.place.at };
      bytes = bytes;
      filled = filled;
      over = over;
      ahead = ahead;
    }

-- After a read: what the search keeps is right, and the read returned this piece.
pub record HasReading {S R : Type 0} (A : Ghosts S) (remaining : R → Option (List ℕ)) (i j : Inside S)
    (before after : Watched R) (piece : List ℕ) (failed : ℕ) : Type 0 where
  pub kept : IsListingKept A j
  pub read : HasRead remaining (listed_by A i) (listed_by A j) before after piece failed

pub reading-on : {S R : Type 0} (A : Ghosts S) {remaining : R → Option (List ℕ)} (i : Inside S)
    {before after : Watched R} (all : List (List ℕ)) (bytes : Vec ℕ) (n : ℕ) (over : Bool) {left : Ahead} {failed : ℕ}
    → IsListingKept A i
    → IsSearched (listed_by A i)
    → HasForgotten i.ahead 0 left
    → HasGiven remaining before after (take n bytes.items ∷ []) failed
    → length (take n bytes.items) ≡ n → n ≤ vec_len i.bytes
    → all ≡ i.pieces.items ++ take n bytes.items ∷ [] → vec_len bytes ≡ vec_len i.bytes
    → (over ≡ false → CanBeCounted (concat i.pieces.items ++ take n bytes.items))
    × (over ≡ true → ¬ CanBeCounted (concat i.pieces.items ++ take n bytes.items))
    → HasReading A remaining i (read_to i all bytes n over left) before after (take n bytes.items) failed
reading-on A i all bytes n over {left} is searched forgotten gave long fits joined same
    test =
    let a = i.automaton.now in
    let b = A.built a in
    let pieces = i.pieces.items in
    let piece : List ℕ = take n bytes.items in
    let j = read_to i all bytes n over left in
    let less = less_ahead i.sums i.ahead in
    let settled = is.1 in
    let view = reading-view b pieces all i.given.value i.place i.sums piece settled.number is.0 joined in
    let view_less = reading-view b pieces all i.given.value i.place less piece settled.number settled.stands.course
    joined in
    let kept : IsListingSearch (A.Reaches a No) (A.matches a) (listed_by A (record j { sums = less })) j.place
    i.given.value (vec_len bytes) piece n over =
    subst (λ t. IsListingSearch (A.Reaches a No) (A.matches a) t j.place i.given.value (vec_len bytes) piece n over)
    (sym view_less)
    (reading-right over (vec_len bytes) piece piece n settled searched
    long fits refl same test) in
    let end = at-end pieces i.place (take i.filled i.bytes.items) settled.bytes searched in
    let none = ahead-forgotten (λ standard. end) is.2 forgotten in
    let right =
    subst (λ k. IsListingSearch (A.Reaches a No) (A.matches a)
    (listed_by A (record j {
      sums = record i.sums {
        looked = record i.sums.looked
            { value = i.sums.looked.value - k };
      };
    }))
    j.place i.given.value (vec_len bytes) piece n over) (sym forgotten.ahead) kept in
    record {
      kept = listing-kept A j right none (omega (arith, forgotten.ahead, is.3));
      read = record {
        built = refl;
        pieces = joined;
        closed = refl;
        given = ap (λ t. t.given) view;
        at = refl;
        last = refl;
        from = omega arith;
        short = omega (arith, long, fits, settled.long);
        read = gave;
      };
    }
