-- What is left of a listing depends only on what lies at most the longest pattern's length before the end of the last
-- occurrence.
use Rattle.std.proofs.Common.{◌≡◌, ◌==◌, ◌&&◌, if◌then◌else◌, cond, ℕ, zero, suc, add-one, min, max, map, slice_get, length-drop, ◌+◌, ◌-◌, ◌<◌, ◌≤◌, Bool, false, true, Option, Some, None, Ok, List, [], ◌∷◌, length, drop, take, refl, sym, ap, subst, ◌∙◌, inl, inr, ⊎_elim, arith, Less, IsTrue}
use Rattle.std.proofs.lemmas.Bool.{false≢true}
use Rattle.std.proofs.lemmas.Bool.Decides.{leb_tells}
use Rattle.ac_input.specs.declared.search.MatchKind.TheVariants.{Standard}
use Rattle.ac_input.specs.Occurrence.{Search, Occurrence, Occurs, starting_at}
use Rattle.ac_input.specs.Best.{preference, IsAfter}
use Rattle.ac_input.specs.Word.{is_whole_word}
use Rattle.ac_input.specs.Work.{longest, shortest}
use Rattle.std.specs.List.{filter}
use Rattle.std.proofs.lemmas.List.{drop-drop}
use Rattle.ac_input.specs.Computed.{is_after, listing_after}
use Rattle.ac_input.specs.Input.{Asked}
use Rattle.ac_automaton.specs.Automaton.{listing_in, searched}
use Rattle.ac_automaton.specs.InMemory.Overlapping.OverlappingIter.{Run, rest_of}
use Rattle.ac_automaton.specs.InMemory.Overlapping.{CanOverlap}
use Rattle.aho_corasick.specs.AhoCorasick.{as_built, patterns_of, supported_by}
use Rattle.aho_corasick.specs.declared.ahocorasick.AhoCorasick.{AhoCorasick}
use Rattle.ac_c.specs.declared.found.Found.{Found}
use Rattle.ac_c.specs.declared.list.Place.{Place}
use Rattle.ac_c.specs.Found.{shown}
use Rattle.ac_c.specs.List.{AreNextListed, AreWantedBy, IsPlaceOver, asked_from, before_of, begins_at, left_of_listing, left_of_wanted, left_of_word_listing, place_after, seen, wanted_of}
use Rattle.ac_c.specs.Walk.{AreGiven}
use Rattle.ac_input.specs.Listing.{ListsAll}
use Rattle.ac_input.proofs.lemmas.ContainsLemmas.{Contains-head, Contains-tail, Contains-cases}
use Rattle.ac_input.proofs.lemmas.DeadLemmas.{no_longer-pattern}
use Rattle.ac_input.proofs.lemmas.ListingLemmas.{ListsAll-unique, listing_after-lists, IsAfter-trans}
use Rattle.ac_input.proofs.lemmas.OrderLemmas.{occurs-end}
use Rattle.ac_input.proofs.lemmas.RisingLemmas.{less_by_end, less_flip, less_itself, IsRising-head, IsRising-tail}

-- an occurrence that comes after another ends no sooner
after-end : (b o : Occurrence) → preference Standard b o ≡ Less → b.end ≤ o.end
after-end b o less =
    ⊎_elim (λ le. le) (λ (lt : o.end < b.end). absurd (less_flip b o less (less_by_end o b lt)))
    (⊎_elim (λ h. inl h.1) (λ h. inr h.1) (leb_tells b.end o.end))

-- an occurrence that comes after another starts at most the longest pattern's length before the other's end
pub after-start : (s : Search) (b o : Occurrence) → s.end ≤ length s.haystack → Occurs s o → IsAfter (Some b) o
    → b.end - longest s.patterns ≤ o.start
after-start s b o fits h after =
    let e = occurs-end fits h in
    let le : length e.0 ≤ longest s.patterns = no_longer-pattern s.patterns o.pattern e.1 in
    let is : o.end ≡ o.start + length e.0 = e.2 in
    let end : b.end ≤ o.end = after-end b o after in
    omega arith

-- a listing may begin at any place before which no later occurrence starts
pub listing_after-from : (s : Search) (from : ℕ) (before : Option Occurrence) → s.end ≤ length s.haystack
    → s.anchored ≡ false → s.start ≤ from
    → ((o : Occurrence) → Occurs s o → IsAfter before o → from ≤ o.start)
    → listing_after (starting_at s from) before ≡ listing_after s before
listing_after-from s from before fits free le later =
    let part = listing_after-lists before fits in
    ListsAll-unique (
      part.0,
      λ o. (
        λ c. let h = (part.1 o).0 c in
            (wider o h.0, h.1),
        λ h. (part.1 o).1 (narrower o h.0 (later o h.0 h.1), h.1),
      ),
    )
    (listing_after-lists before fits)
  where
    never : {X : Type 0} → IsTrue s.anchored → X
    never is = absurd (false≢true (sym free ∙ is))

    wider : (o : Occurrence) → Occurs (starting_at s from) o → Occurs s o
    wider o h = let w = h.within in record { within = (omega arith, w.1, w.2); same = h.same; anchor = λ is. never is }

    narrower : (o : Occurrence) → Occurs s o → from ≤ o.start → Occurs (starting_at s from) o
    narrower o h at = record { within = (at, h.within.1, h.within.2); same = h.same; anchor = λ is. never is }

-- the occurrences after the first one left are the rest of those left
pub listing_after-tail : (s : Search) (before : Option Occurrence) (o : Occurrence) (rest : List Occurrence)
    → s.end ≤ length s.haystack
    → listing_after s before ≡ o ∷ rest → listing_after s (Some o) ≡ rest
listing_after-tail s before o rest fits e =
    let all : ListsAll (λ q. Occurs s q × IsAfter before q) (o ∷ rest) =
    subst (ListsAll (λ q. Occurs s q × IsAfter before q)) e (listing_after-lists before fits) in
    let first = (all.1 o).0 (Contains-head rest) in
    ListsAll-unique
    (listing_after-lists (Some o) fits) (
      IsRising-tail o rest all.0,
      λ q. (
        λ c. (((all.1 q).0 (Contains-tail rest c)).0, IsRising-head o rest all.0 c),
        λ h. ⊎_elim
            (λ (same : o ≡ q). absurd (less_itself o
            (subst (λ z. preference Standard o z ≡ Less) (sym same) h.1)))
            (λ more. more)
            (Contains-cases rest ((all.1 q).1 (h.0, IsAfter-trans before o q first.1 h.1))),
      ),
    )

-- the occurrences after one further on in the list are the rest after it
beyond : (s : Search) (before : Option Occurrence) (n : ℕ) (o : Occurrence) (rest : List Occurrence)
    → s.end ≤ length s.haystack
    → (all : List Occurrence) → listing_after s before ≡ all → drop (suc n) (listing_after s before) ≡ o ∷ rest
    → ((q : Occurrence) → drop n (listing_after s (Some q)) ≡ o ∷ rest → listing_after s (Some o) ≡ rest)
    → listing_after s (Some o) ≡ rest
beyond s before n o rest fits [] is e more =
    let none : [] ≡ o ∷ rest = subst (λ os. drop (suc n) os ≡ o ∷ rest) is e in absurd (cc)
beyond s before n o rest fits (q ∷ qs) is e more =
    let tail = listing_after-tail s before q qs fits is in
    let next : drop n qs ≡ o ∷ rest = subst (λ os. drop (suc n) os ≡ o ∷ rest) is e in
    more q (ap (drop n) tail ∙ next)

-- the occurrences after any one left are the rest of those left after it
pub listing_after-drop : (s : Search) (before : Option Occurrence) (n : ℕ) (o : Occurrence) (rest : List Occurrence)
    → s.end ≤ length s.haystack
    → drop n (listing_after s before) ≡ o ∷ rest → listing_after s (Some o) ≡ rest
listing_after-drop s before zero o rest fits e = listing_after-tail s before o rest fits e
listing_after-drop s before (suc n) o rest fits e =
    beyond s before n o rest fits (listing_after s before) refl e (λ q. listing_after-drop s (Some q) n o rest fits)

-- the last entry of the buffer shows the last occurrence that was given
pub shown-last : (left : List Occurrence) (out : List Found) (n : ℕ) (o : Occurrence) (rest : List Occurrence)
    → take (suc n) out ≡ map shown (take (suc n) left)
    → drop n left ≡ o ∷ rest → slice_get out n ≡ Some (shown o)
shown-last [] out zero o rest given e = absurd (cc)
shown-last (q ∷ qs) [] zero o rest given e = absurd (cc)
shown-last (q ∷ qs) (f ∷ fs) zero o rest given e = cc
shown-last [] out (suc n) o rest given e = absurd (cc)
shown-last (q ∷ qs) [] (suc n) o rest given e = absurd (cc)
shown-last (q ∷ qs) (f ∷ fs) (suc n) o rest given e =
    let tails : take (suc n) fs ≡ map shown (take (suc n) qs) = cc in
    shown-last qs fs n o rest tails e

-- after one of those left at a place was given, the rest after it is left
abbrev GoesAfter : (Place → List Occurrence) → Place → Type 0
GoesAfter left p =
    (n : ℕ) (o : Occurrence) (rest : List Occurrence) → drop n (left p) ≡ o ∷ rest
    → left (record p { last = shown o; begun = 1 }) ≡ rest

-- a listing goes on after any of its occurrences
listing-goes : (ac : AhoCorasick) (haystack : List ℕ) (p : Place) → p.end ≤ length haystack
    → GoesAfter (left_of_listing ac haystack) p
listing-goes ac haystack p fits n o rest e =
    listing_after-drop (searched (as_built ac) (asked_from haystack p p.start)) (before_of p) n o rest fits e

-- an element stands in a list, and what passes a test after it is this
abbrev Stands : (Occurrence → Bool) → List Occurrence → Occurrence → List Occurrence → Type 0
Stands test xs o rest = (m : ℕ) × (more : List Occurrence) × (drop m xs ≡ o ∷ more) × (filter test more ≡ rest)

-- so it is where the list has one more element, which passes the test or not
stands-on : (test : Occurrence → Bool) (x : Occurrence) (xs : List Occurrence) (o : Occurrence) (rest : List Occurrence)
    (passes : Bool) (n : ℕ) → ((k : ℕ) → drop k (filter test xs) ≡ o ∷ rest → Stands test xs o rest)
    → drop n (cond passes (x ∷ filter test xs) (filter test xs)) ≡ o ∷ rest → Stands test (x ∷ xs) o rest
stands-on test x xs o rest true zero more e =
    let first : x ≡ o = cc in let after : filter test xs ≡ rest = cc in
    (zero, xs, ap (λ y. y ∷ xs) first, after)
stands-on test x xs o rest true (suc n) more e = let f = more n e in (suc f.0, f.1, f.2, f.3)
stands-on test x xs o rest false n more e = let f = more n e in (suc f.0, f.1, f.2, f.3)

-- any of those that pass a test stands in the list
filter-after : (test : Occurrence → Bool) (xs : List Occurrence) (n : ℕ) (o : Occurrence) (rest : List Occurrence)
    → drop n (filter test xs) ≡ o ∷ rest → Stands test xs o rest
filter-after test [] zero o rest e = absurd (cc)
filter-after test [] (suc n) o rest e = absurd (cc)
filter-after test (x ∷ xs) n o rest e =
    stands-on test x xs o rest (test x) n (λ k. filter-after test xs k o rest) e

-- a listing of words goes on after any of its words
words-go : (ac : AhoCorasick) (haystack : List ℕ) (p : Place) → p.end ≤ length haystack
    → GoesAfter (left_of_word_listing ac haystack) p
words-go ac haystack p fits n o rest e =
    let f = filter-after (is_whole_word haystack) (left_of_listing ac haystack p) n o rest e in
    ap (filter (is_whole_word haystack)) (listing-goes ac haystack p fits f.0 o f.1 f.2) ∙ f.3

-- after the first n of those left were given, the rest is left
listing-after : (left : Place → List Occurrence) (p : Place) (out : List Found) (n : ℕ) → GoesAfter left p
    → n ≤ length (left p) → take n out ≡ map shown (take n (left p))
    → left (place_after p out n) ≡ drop n (left p)
listing-after left p out zero goes le given = refl
listing-after left p out (suc n) goes le given = step (drop n (left p)) refl
  where
    step : (more : List Occurrence) → drop n (left p) ≡ more → left (place_after p out (suc n)) ≡ drop (suc n) (left p)
    step [] e = absurd (omega (arith, ap length e, length-drop n (left p)))
    step (o ∷ rest) e =
        let last = shown-last (left p) out n o rest given e in
        let next : place_after p out (suc n) ≡ record p { last = shown o; begun = 1 } =
        ap (λ f. elim f as (λ _. Place) [ None ↦ p | Some g ↦ record p { last = g; begun = 1 } ])
        last in
        ap left next
        ∙ (goes n o rest e ∙ (ap (drop 1) (sym e) ∙ drop-drop 1 n (left p) ∙ ap (λ m. drop m (left p)) (add-one n)))

-- no occurrence that is left starts before the place where the next search starts
begins : (p : Place) (s : Search) (n : ℕ) (none : Bool) → s.end ≤ length s.haystack → longest s.patterns ≡ n
    → s.start ≡ p.start → s.end ≡ p.end → p.start ≤ p.end + 1
    → (p.start ≤ (if none then p.start else min (max (p.last.end - n) p.start) (p.end + 1)))
    × ((o : Occurrence) → Occurs s o → IsAfter (if none then None else Some (seen p.last)) o
    → (if none then p.start else min (max (p.last.end - n) p.start) (p.end + 1)) ≤ o.start)
begins p s n true fits long start end le = (omega arith, λ o h after. let w = h.within in omega arith)
begins p s n false fits long start end le =
    (omega arith, λ o h after. let w = h.within in let late = after-start s (seen p.last) o fits h after in omega arith)

-- a search from that place finds all occurrences that are left
pub listing-begins : (ac : AhoCorasick) (haystack : List ℕ) (p : Place) (n : ℕ) → p.end ≤ length haystack
    → p.start ≤ p.end + 1 → n ≡ longest (patterns_of ac)
    → listing_after (searched (as_built ac) (asked_from haystack p (begins_at p n))) (before_of p)
    ≡ left_of_listing ac haystack p
listing-begins ac haystack p n fits le long =
    let s : Search = searched (as_built ac) (asked_from haystack p p.start) in
    let h = begins p s n (p.begun == 0) fits (sym long) refl refl le in
    listing_after-from s (begins_at p n) (before_of p) fits refl h.0 h.1

-- one more element passes both tests, or not
filter-both_on : (one other : Occurrence → Bool) (x : Occurrence) (xs : List Occurrence) (passes : Bool)
    → filter (λ o. one o && other o) xs ≡ filter other (filter one xs)
    → cond (passes && other x) (x ∷ filter (λ o. one o && other o) xs) (filter (λ o. one o && other o) xs)
    ≡ filter other (cond passes (x ∷ filter one xs) (filter one xs))
filter-both_on one other x xs true rest = ap (λ ys. cond (other x) (x ∷ ys) ys) rest
filter-both_on one other x xs false rest = rest

-- what passes two tests is what passes the second of what passes the first
filter-both : (one other : Occurrence → Bool) (xs : List Occurrence)
    → filter (λ o. one o && other o) xs ≡ filter other (filter one xs)
filter-both one other [] = refl
filter-both one other (x ∷ xs) = filter-both_on one other x xs (one x) (filter-both one other xs)

-- each element passes a test that is always true
filter-all : (xs : List Occurrence) → filter (λ o. true) xs ≡ xs
filter-all [] = refl
filter-all (x ∷ xs) = ap (λ ys. x ∷ ys) (filter-all xs)

-- what a run from the place of the next search still gives is what is left of the listing
wanted-left : (words : Bool) (ac : AhoCorasick) (haystack : List ℕ) (p : Place) (run : Run)
    → filter (is_after (before_of p)) (rest_of run) ≡ left_of_listing ac haystack p
    → wanted_of haystack (record { place = p; words = words }) run ≡ left_of_wanted words ac haystack p
wanted-left false ac haystack p run all = filter-both (is_after (before_of p)) (λ o. true) (rest_of run) ∙ (filter-all _ ∙ all)
wanted-left true ac haystack p run all =
    filter-both (is_after (before_of p)) (is_whole_word haystack) (rest_of run) ∙ ap (filter (is_whole_word haystack)) all

-- a listing goes on after any of what it gives
wanted-go : (words : Bool) (ac : AhoCorasick) (haystack : List ℕ) (p : Place) → p.end ≤ length haystack
    → GoesAfter (left_of_wanted words ac haystack) p
wanted-go false = listing-goes
wanted-go true = words-go

-- the buffer has what comes next of the listing, and the new place has the rest
pub listed : (words : Bool) (ac : AhoCorasick) (haystack : List ℕ) (p : Place) (input : Asked) (run : Run)
    (old new : List Found) (longest_is n : ℕ) → IsPlaceOver haystack p → longest_is ≡ longest (patterns_of ac)
    → input ≡ asked_from haystack p (begins_at p longest_is) → rest_of run ≡ listing_in (as_built ac) input
    → AreGiven (wanted_of haystack (record { place = p; words = words }) run) old new n
    → AreNextListed (left_of_wanted words ac haystack) p old new n
listed words ac haystack p input run old new longest_is n valid long asked all given =
    let later : filter (is_after (before_of p)) (rest_of run) ≡ left_of_listing ac haystack p =
    ap (filter (is_after (before_of p))) (all ∙ ap (listing_in (as_built ac)) asked)
    ∙ listing-begins ac haystack p longest_is valid.1 valid.0 long in
    let left : AreGiven (left_of_wanted words ac haystack p) old new n =
    subst (λ os. AreGiven os old new n) (wanted-left words ac haystack p run later) given in
    let count = left.count in (
      left,
      listing-after (left_of_wanted words ac haystack) p new n (wanted-go words ac haystack p valid.1) (omega arith)
          left.given,
    )

-- so this is what a call returns, if no pattern is empty where words are wanted
pub wanted-by : (words : Bool) (ac : AhoCorasick) (haystack : List ℕ) (p : Place) (old new : List Found) (n : ℕ)
    → IsPlaceOver haystack p → CanOverlap (as_built ac) (supported_by ac) (asked_from haystack p p.start)
    → (words ≡ true → 1 ≤ shortest (patterns_of ac)) → AreNextListed (left_of_wanted words ac haystack) p old new n
    → AreWantedBy words ac haystack p old new (Ok n)
wanted-by false ac haystack p old new n valid can filled given = (valid, can, given)
wanted-by true ac haystack p old new n valid can filled given = (valid, (can.0, can.1, filled refl), given)
