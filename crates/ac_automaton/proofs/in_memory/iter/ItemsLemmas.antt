-- Where the matches of an input lie, and how many there are at most.
use Rattle.std.proofs.Common.{◌≡◌, ℕ, zero, suc, ◌+◌, ◌-◌, ◌*◌, ◌≤◌, Bool, true, false, cond, ◌&&◌, eqb, leb, IfSome, List, [], ◌∷◌, length, Option, Some, None, Result, Ok, Err, IfOk, slice_get, slice_range, sym, ap, subst, ◌∙◌, arith, length-append, mul-suc}
use Rattle.std.specs.Iterator.{YieldsFirst, Yields}
use Rattle.std.specs.Iterator.Runs.{EachRunFrom, AllItems}
use Rattle.std.specs.List.{Contains, filter}
use Rattle.std.proofs.Math.Nat.{mul-le-mul_left}
use Rattle.std.proofs.iter.runs.Lists.{Everywhere}
use Rattle.std.proofs.iter.runs.Made.{took, each}
use Rattle.std.proofs.lemmas.Bool.Decides.{nat_tests}
use Rattle.std.proofs.lemmas.Option.{slice_get_within}
use Rattle.ac_input.specs.declared.search.Anchored.{Anchored}
use Rattle.ac_input.specs.Computed.{at_place, from_place, occurrences, to_place}
use Rattle.ac_input.specs.Input.{Asked, whole_of}
use Rattle.ac_input.specs.Laws.{IsApart}
use Rattle.ac_input.specs.Same.{same_text}
use Rattle.ac_input.specs.Occurrence.{Search, Occurrence, Occurs}
use Rattle.ac_input.proofs.lemmas.ContainsLemmas.{Contains-head, Contains-tail}
use Rattle.ac_input.proofs.lemmas.ListingLemmas.{listing_of-lists}
use Rattle.ac_input.proofs.lemmas.WalkLemmas.{walk-occurs_somewhere, walk-rising, walk-within, walk_of-walk}
use Rattle.ac_automaton.specs.Automaton.{Built, IsFound, kind_asked, listing_in, searched, walk_in}
use Rattle.ac_automaton.specs.InMemory.Items.{AreFewForEach, MatchesAreInOrder, EachLiesWithin, LiesWithin}
use Rattle.ac_automaton.specs.InMemory.Iter.{AnswersFindIter, AnswersFindIterFrom, Walk, left_of, walk_from_place}
use Rattle.ac_automaton.specs.InMemory.Overlapping.OverlappingIter.{Run, rest_of}
use Rattle.ac_automaton.specs.InMemory.Replace.{LieInOrder, matches_in}
use Rattle.ac_automaton.specs.declared.error.MatchErrorKind.{MatchErrorKind}
use Rattle.ac_automaton.proofs.lemmas.ReplaceLemmas.{walk-lies}

-- ---- items

-- what holds of each item left holds of each item that the iterator returns
items-come : {S A : Type 0} (rest : S → List A) (P : A → Type 0) (xs : List A) (s t : S)
    → ((x : A) → Contains (rest s) x → P x) → Yields (YieldsFirst rest) s xs t → Everywhere xs P
items-come rest P [] s t all gave = λ k. tt
items-come {A = A} rest P (x ∷ xs) s t all gave =
    let left : (y : A) → Contains (x ∷ rest gave.0) y → P y = subst (λ ys. (y : A) → Contains ys y → P y) gave.1 all in
    let later = items-come rest P xs gave.0 t (λ y has. left y (Contains-tail (rest gave.0) has)) gave.2 in
    elim [ zero ↦ left x (Contains-head (rest gave.0)) | suc k ↦ later k ]

each-item : {S A : Type 0} {rest : S → List A} {P : A → Type 0} {s : S} → ((x : A) → Contains (rest s) x → P x)
    → EachRunFrom (YieldsFirst rest) s (λ p. AllItems p P)
each-item {S} {A} {rest} {P} all p seen from =
    each p P
    (items-come rest P p.items p.from (took p).0 (subst (λ u. (x : A) → Contains (rest u) x → P x) (sym from) all)
    (took p).1)

-- ---- where a match lies

-- an occurrence of a pattern within the span lies in the input
lies-between : (b : Built) {asked : Asked} {o : Occurrence} {p : List ℕ} → asked.span.end ≤ length asked.haystack
    → slice_get b.dictionary.patterns o.pattern ≡ Some p → asked.span.start ≤ o.start → o.start ≤ o.end
    → o.end ≤ asked.span.end → LiesWithin b.dictionary asked o
lies-between b {o} {p} inside is behind order within = record {
  pattern = slice_get_within b.dictionary.patterns o.pattern p is;
  order = order;
  within = omega arith;
  span = (behind, within);
}

-- what occurs in the search of an input lies in the input
occurs-lies : (b : Built) {asked : Asked} {o : Occurrence} → asked.span.end ≤ length asked.haystack
    → Occurs (searched b asked) o → LiesWithin b.dictionary asked o
occurs-lies b inside occurs = lies-between b inside occurs.same.1 occurs.within.0 occurs.within.1 occurs.within.2

-- a find's match lies in the input
pub found-lies : (b : Built) (asked : Asked) (r : Option Occurrence) → asked.span.end ≤ length asked.haystack
    → IsFound b asked r → IfSome r (LiesWithin b.dictionary asked)
found-lies b asked None inside found = tt
found-lies b asked (Some o) inside found = occurs-lies b inside found.0

-- each match of a walk lies in the input
match-lies : (b : Built) {asked : Asked} {o : Occurrence} → asked.span.end ≤ length asked.haystack
    → Contains (walk_in b asked) o → LiesWithin b.dictionary asked o
match-lies b {asked} {o} inside has =
    let s : Search = searched b asked in
    let walk = walk_of-walk (kind_asked b asked) s inside in
    let from = walk-occurs_somewhere (kind_asked b asked) s None (walk_in b asked) walk has in
    let within = walk-within (kind_asked b asked) s s.start None (walk_in b asked) o walk has in
    lies-between b inside from.2.same.1 within.0 within.1 within.2

-- occurrences that lie in order in a text lie in order in a longer one
pub lies-longer : (patterns : ℕ) {len more : ℕ} (at : ℕ) (os : List Occurrence) → len ≤ more
    → LieInOrder patterns len at os → LieInOrder patterns more at os
lies-longer patterns at [] le lies = tt
lies-longer patterns at (o ∷ os) le lies =
    (lies.0, lies.1, lies.2, omega (arith, lies.3), lies-longer patterns o.end os le lies.4)

-- a walk's matches lie in the input, in order
pub walk-in-order : (b : Built) (asked : Asked) (w : Walk) → asked.span.end ≤ length asked.haystack
    → left_of w ≡ walk_in b asked → MatchesAreInOrder b asked w
walk-in-order b asked w inside all =
    let s : Search = searched b asked in
    let walk = walk_of-walk (kind_asked b asked) s inside in
    let lie = lies-longer (length b.dictionary.patterns) asked.span.start (walk_in b asked) inside
    (walk-lies (kind_asked b asked) s s.start None (walk_in b asked) walk) in (
      each-item (λ o has. match-lies b inside (subst (λ os. Contains os o) all has)),
      subst (LieInOrder (length b.dictionary.patterns) (length asked.haystack) asked.span.start) (sym all) lie,
    )

-- ---- how many there are

-- Occurrences within a text that begin one after another are at most one more than its bytes.
apart-few : {len : ℕ} {o : Occurrence} (os : List Occurrence) → IsApart (o ∷ os)
    → ((p : Occurrence) → Contains (o ∷ os) p → p.start ≤ len) → length (o ∷ os) + o.start ≤ len + 1
apart-few {o} [] apart within = omega (arith, within o (Contains-head []))
apart-few (p ∷ os) apart within =
    omega (arith, apart-few os apart.3 (λ q has. within q (Contains-tail (p ∷ os) has)), apart.1)

few-apart : {len : ℕ} (os : List Occurrence) → IsApart os → ((p : Occurrence) → Contains os p → p.start ≤ len)
    → length os ≤ len + 1
few-apart [] apart within = omega arith
few-apart (o ∷ os) apart within = omega (arith, apart-few os apart within)

-- an input has at most one match for each place of its haystack, its end among them
walks-few : (b : Built) (asked : Asked) → asked.span.end ≤ length asked.haystack
    → length (walk_in b asked) ≤ length asked.haystack + 1
walks-few b asked inside =
    let s : Search = searched b asked in
    let walk = walk_of-walk (kind_asked b asked) s inside in
    few-apart (walk_in b asked) (walk-rising (kind_asked b asked) s s.start None inside (walk_in b asked) walk)
    (λ o has. let lies = match-lies b inside has in let order = lies.order in let within = lies.within in omega arith)

-- a walk that has not begun returns at most one match for each place of the haystack
pub walk-few : (b : Built) (asked : Asked) (w : Walk) → asked.span.end ≤ length asked.haystack
    → left_of w ≡ walk_in b asked → (length (left_of w) ≤ length asked.haystack + 1)
walk-few b asked w inside all = omega (arith, ap length all, walks-few b asked inside)

-- a walk from the place where its input begins has all of the input's matches left
from-begin : {b : Built} {asked : Asked} {at : ℕ} {w : Walk} → at ≡ asked.span.start
    → w ≡ walk_from_place b asked (record { start = at; last = None }) → left_of w ≡ walk_in b asked
from-begin {b} {asked} e h =
    ap left_of h ∙ ap (λ start. left_of (walk_from_place b asked (record { start = start; last = None }))) e

-- a walk from the place where its input begins returns few matches, in order
pub from-few : (b : Built) (supports : Anchored → Type 0) (asked : Asked) {at : ℕ} (r : Result Walk MatchErrorKind)
    → asked.span.end ≤ length asked.haystack → at ≡ asked.span.start
    → AnswersFindIterFrom b supports asked (record { start = at; last = None }) r
    → IfOk r (λ w. length (left_of w) ≤ length asked.haystack + 1)
from-few b supports asked (Ok w) inside e h = walk-few b asked w inside (from-begin e h.1)
from-few b supports asked (Err error) inside e h = tt

pub from-in-order : (b : Built) (supports : Anchored → Type 0) (asked : Asked) {at : ℕ} (r : Result Walk MatchErrorKind)
    → asked.span.end ≤ length asked.haystack → at ≡ asked.span.start
    → AnswersFindIterFrom b supports asked (record { start = at; last = None }) r → IfOk r (MatchesAreInOrder b asked)
from-in-order b supports asked (Ok w) inside e h = walk-in-order b asked w inside (from-begin e h.1)
from-in-order b supports asked (Err error) inside e h = tt

-- a walk from the place where its input begins returns what a walk of the input does
pub from-answers : (b : Built) (supports : Anchored → Type 0) (asked : Asked) {at : ℕ} (r : Result Walk MatchErrorKind)
    → at ≡ asked.span.start
    → AnswersFindIterFrom b supports asked (record { start = at; last = None }) r → AnswersFindIter b supports asked r
from-answers b supports asked (Ok w) e h =
    (h.0, h.1 ∙ ap (λ start. walk_from_place b asked (record { start = start; last = None })) e, from-begin e h.1)
from-answers b supports asked (Err error) e h = h

-- a whole text has at most one match for each place, its end among them
pub matches-few : (b : Built) (text : List ℕ) → length (matches_in b text) ≤ length text + 1
matches-few b text = walks-few b (whole_of text) (omega arith)

-- ---- overlapping

-- each occurrence of a listing lies in the input
pub listing-lies : (b : Built) (asked : Asked) (run : Run) → asked.span.end ≤ length asked.haystack
    → rest_of run ≡ listing_in b asked → EachLiesWithin rest_of b asked run
listing-lies b asked run inside all =
    each-item (λ o has. occurs-lies b inside (((listing_of-lists inside).1 o).0 (subst (λ os. Contains os o) all has)))

-- one step of a filter keeps one or none
kept-one : {X : Type 0} (b : Bool) (x : X) (xs : List X) → length (cond b (x ∷ xs) xs) ≡ cond b 1 0 + length xs
kept-one true x xs = omega arith
kept-one false x xs = omega arith

-- a test adds one at most
one-most : (b : Bool) → cond b 1 0 ≤ 1
one-most true = omega arith
one-most false = omega arith

-- a filter keeps at most all elements
filter-few : {X : Type 0} (p : X → Bool) (xs : List X) → length (filter p xs) ≤ length xs
filter-few p [] = omega arith
filter-few p (x ∷ xs) = omega (arith, kept-one (p x) x (filter p xs), one-most (p x), filter-few p xs)

-- An occurrence that ends at a place, or later, is counted once among those that end at the place or later.
one-end : (at end : ℕ) → cond (eqb end at) 1 0 + cond (leb (at + 1) end) 1 0 ≤ cond (leb at end) 1 0
one-end at end = grind (arith, nat_tests)

split-few : (at : ℕ) (os : List Occurrence)
    → length (filter (λ (o : Occurrence). eqb o.end at) os)
    + length (filter (λ (o : Occurrence). leb (at + 1) o.end) os)
    ≤ length (filter (λ (o : Occurrence). leb at o.end) os)
split-few at [] = omega arith
split-few at (o ∷ os) = omega (
  arith,
  kept-one (eqb o.end at) o (filter (λ (q : Occurrence). eqb q.end at) os),
  kept-one (leb (at + 1) o.end) o (filter (λ (q : Occurrence). leb (at + 1) q.end) os),
  kept-one (leb at o.end) o (filter (λ (q : Occurrence). leb at q.end) os),
  one-end at o.end,
  split-few at os,
)

-- The occurrences gathered for each place from a first one on are no more than those that end from there on.
to_place-few : (s : Search) (at places : ℕ)
    → length (to_place occurrences s at places) ≤ length (filter (λ (o : Occurrence). leb at o.end) (occurrences s))
to_place-few s at zero = omega arith
to_place-few s at (suc places) = omega (
  arith,
  length-append (filter (λ (o : Occurrence). eqb o.end at) (occurrences s)) (to_place occurrences s (at + 1) places),
  to_place-few s (at + 1) places,
  split-few at (occurrences s),
)

-- a place has at most one occurrence of each pattern
at_place-few : (s : Search) (at : ℕ) (ps : List (List ℕ)) (n : ℕ) → length (at_place s at ps n) ≤ length ps
at_place-few s at [] n = omega arith
at_place-few s at (p ∷ ps) n =
    let test = leb (at + length p) s.end && same_text s.pairing p (slice_range s.haystack at (at + length p)) in
    omega (
      arith,
      kept-one test (record { pattern = n; start = at; end = at + length p }) (at_place s at ps (n + 1)),
      one-most test,
      at_place-few s at ps (n + 1),
    )

-- some places have at most as many occurrences for each pattern as there are places
from_place-few : (s : Search) (at places : ℕ) → length (from_place s at places) ≤ length s.patterns * places
from_place-few s at zero = omega arith
from_place-few s at (suc places) = omega (
  arith,
  length-append (at_place s at s.patterns 0) (from_place s (at + 1) places),
  at_place-few s at s.patterns 0,
  from_place-few s (at + 1) places,
  mul-suc (length s.patterns) places,
)

-- a search has at most one occurrence of each pattern for each place up to its end
occurrences-few : (s : Search) → length (occurrences s) ≤ length s.patterns * (s.end + 1)
occurrences-few s = by s.anchored (leb s.start s.end)
  where
    places : (n : ℕ) → n ≤ s.end + 1 → length (from_place s s.start n) ≤ length s.patterns * (s.end + 1)
    places n le = omega (arith, from_place-few s s.start n, mul-le-mul_left (length s.patterns) le)

    by : (anchored any : Bool) → length
        (cond anchored (from_place s s.start (cond any 1 0)) (from_place s s.start (s.end + 1 - s.start)))
        ≤ length s.patterns * (s.end + 1)
    by true any = places (cond any 1 0) (omega (arith, one-most any))
    by false any = places (s.end + 1 - s.start) (omega arith)

-- an input has at most one occurrence of each pattern for each place
pub listing-few : (b : Built) (asked : Asked) (run : Run) → asked.span.end ≤ length asked.haystack
    → rest_of run ≡ listing_in b asked → AreFewForEach b asked run
listing-few b asked run inside all =
    let s : Search = searched b asked in
    let longer : s.end + 1 ≤ length asked.haystack + 1 = omega arith in
    omega (
      arith,
      ap length all,
      to_place-few s s.start (s.end + 1 - s.start),
      filter-few (λ (o : Occurrence). leb s.start o.end) (occurrences s),
      occurrences-few s,
      mul-le-mul_left (length s.patterns) longer,
    )
