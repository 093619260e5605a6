-- What is written for a walk and for a listing.
use Rattle.std.proofs.Common.{◌≡◌, ℕ, zero, suc, ◌+◌, ◌-◌, ◌*◌, ◌≤◌, eqb, eqb-true, true, false, Option, Some, None, List, [], ◌∷◌, ◌++◌, get_or, drop, refl, sym, ap, ap₂, ◌∙◌, subst, ⊎_elim, arith, true≢false, append_assoc, IsTrue}
use Rattle.std.specs.Prelude.{slice_range, slice_get}
use Rattle.std.specs.List.{Contains, filter}
use Rattle.std.proofs.lemmas.Bool.{and_parts, or_cases, cond_both}
use Rattle.std.proofs.lemmas.Option.{get_or_from_slice_get}
use Rattle.std.proofs.lemmas.List.Folds.{drop_split}
use Rattle.ac_input.specs.declared.search.MatchKind.{MatchKind}
use Rattle.ac_input.specs.Same.{other, same, same_text, IsUnpaired}
use Rattle.ac_input.specs.Occurrence.{Search, Occurrence, Occurs, starting_at}
use Rattle.ac_input.specs.Walk.{IsPick, Here, Further, IsWalk}
use Rattle.ac_input.specs.Listing.{IsRising, IsListing}
use Rattle.ac_input.specs.Text.{replaced_from, line, listed}
use Rattle.ac_input.specs.Computed.{at_place, from_place, occurrences, to_place, listing_of, pick_among, pick_of, walk_of}
use Rattle.ac_input.specs.Laws.{StandsOnce}
use Rattle.ac_input.proofs.lemmas.ContainsLemmas.{Contains-nil, Contains-head, Contains-cases}
use Rattle.ac_input.proofs.lemmas.WalkLemmas.{walk-occurs_whole, walk_from-none}
use Rattle.ac_input.proofs.lemmas.RisingLemmas.{less_itself, IsRising-tail, IsRising-head, IsRising-once}

-- a pick is an occurrence from some place on, at or after the place of the walk
pub pick-occurs : {kind : MatchKind} {s : Search} {at : ℕ} {last : Option ℕ} {o : Occurrence}
    → IsPick kind s at last (Some o) → (from : ℕ) × (at ≤ from) × Occurs (starting_at s from) o
pick-occurs {at} (Here best fresh) = (at, omega arith, best.0)
pick-occurs {at} (Further b first again best) = (at + 1, omega arith, best.0)

-- each pick of the walk is one of the overlapping listing
pub walk-in-listing : (kind : MatchKind) (s : Search) (picks all : List Occurrence) (o : Occurrence)
    → s.anchored ≡ false → IsWalk kind s s.start None picks → IsListing s all → Contains picks o → Contains all o
walk-in-listing kind s picks all o loose walk listing c =
    (listing.1 o).1 (walk-occurs_whole kind None picks loose (omega arith) walk c)

-- the head of a list stands once where it is not in the tail
stands_first : (q o : Occurrence) (os : List Occurrence) → q ≡ o → ¬ Contains os q → StandsOnce (q ∷ os) o
stands_first q o os here once =
    ([], os, ap (λ z. z ∷ os) here, Contains-nil, λ c. once (subst (Contains os) (sym here) c))

-- what stands once in the tail stands once in the list, where it is not the head
stands_later : {q o : Occurrence} {os : List Occurrence} → ¬ (q ≡ o) → StandsOnce os o → StandsOnce (q ∷ os) o
stands_later {q} other (front, rest, split, before, behind) =
    (q ∷ front, rest, ap (λ z. q ∷ z) split, λ c. ⊎_elim other before (Contains-cases front c), behind)

-- an element of a rising list stands in it once
pub IsRising-stands_once : (os : List Occurrence) (o : Occurrence) → IsRising os → Contains os o → StandsOnce os o
IsRising-stands_once [] o rising c = absurd (Contains-nil c)
IsRising-stands_once (q ∷ os) o rising c =
    let further = IsRising-stands_once os o (IsRising-tail q os rising) in
    ⊎_elim
    (λ (here : q ≡ o). stands_first q o os here (IsRising-once q os rising))
    (λ later.
    stands_later (λ (here : q ≡ o). less_itself q (IsRising-head q os rising (subst (Contains os) (sym here) later)))
    (further later))
    (Contains-cases os c)

-- each occurrence stands once in the overlapping listing
pub listing-once : (s : Search) (all : List Occurrence) (o : Occurrence) → IsListing s all → Occurs s o
    → StandsOnce all o
listing-once s all o listing occurs = IsRising-stands_once all o listing.0 ((listing.1 o).1 occurs)

-- where no byte is paired, bytes that are the same are equal
same-equal : (pairing : List ℕ) (x y : ℕ) → IsUnpaired pairing → same pairing x y ≡ true → x ≡ y
same-equal pairing x y plain h =
    ⊎_elim
    (λ equal. eqb-true x y equal)
    (λ paired. sym (plain x) ∙ eqb-true (other pairing x) y paired)
    (or_cases (eqb x y) (eqb (other pairing x) y) h)

-- where no byte is paired, texts that are the same are equal
pub same_text-equal : (pairing p q : List ℕ) → IsUnpaired pairing → IsTrue (same_text pairing p q) → p ≡ q
same_text-equal pairing [] [] plain h = refl
same_text-equal pairing [] (y ∷ ys) plain h = absurd (true≢false (sym h))
same_text-equal pairing (x ∷ xs) [] plain h = absurd (true≢false (sym h))
same_text-equal pairing (x ∷ xs) (y ∷ ys) plain h =
    let parts = and_parts (same pairing x y) (same_text pairing xs ys) h in
    ap₂ ◌∷◌ (same-equal pairing x y plain parts.0) (same_text-equal pairing xs ys plain parts.1)

-- after the last pick the rest of the text is left
pub replaced-none : (at : ℕ) (x : List ℕ) (replacements : List (List ℕ))
    → replaced_from at x replacements [] ≡ drop at x
replaced-none at x replacements = refl

-- at a pick, the bytes up to it and its replacement are written, followed by what comes after it
pub replaced-pick : (at : ℕ) (x : List ℕ) (replacements : List (List ℕ)) (o : Occurrence) (picks : List Occurrence)
    → replaced_from at x replacements (o ∷ picks)
    ≡ slice_range x at o.start ++ (get_or replacements o.pattern [] ++ replaced_from o.end x replacements picks)
replaced-pick at x replacements o picks =
    append_assoc (slice_range x at o.start) (get_or replacements o.pattern [])
    (replaced_from o.end x replacements picks)

-- what is written at a pick, appended to what was written before
pub replaced-more : (out : List ℕ) (at : ℕ) (x : List ℕ) (replacements : List (List ℕ)) (o : Occurrence)
    (picks : List Occurrence) → ((out ++ slice_range x at o.start) ++ get_or replacements o.pattern [])
    ++ replaced_from o.end x replacements picks ≡ out ++ replaced_from at x replacements (o ∷ picks)
replaced-more out at x replacements o picks = simp append_assoc

-- one more line, appended to the lines before
pub listed-more : (out : List ℕ) (o : Occurrence) (os : List Occurrence)
    → (out ++ line o) ++ listed os ≡ out ++ listed (o ∷ os)
listed-more out o os = append_assoc out (line o) (listed os)

-- the lines of two lists one after the other
pub listed-append : (xs ys : List Occurrence) → listed (xs ++ ys) ≡ listed xs ++ listed ys
listed-append [] ys = refl
listed-append (o ∷ os) ys =
    ap (λ more. line o ++ more) (listed-append os ys) ∙ sym (append_assoc (line o) (listed os) (listed ys))

-- where each replacement is its pattern, the replacement of an occurrence is the bytes at which the occurrence lies
occurrence-written : (s : Search) (o : Occurrence) (replacements : List (List ℕ)) → IsUnpaired s.pairing
    → ((n : ℕ) → get_or replacements n [] ≡ get_or s.patterns n [])
    → (p : List ℕ) × (slice_get s.patterns o.pattern ≡ Some p)
    × IsTrue (same_text s.pairing p (slice_range s.haystack o.start o.end))
    → get_or replacements o.pattern [] ≡ slice_range s.haystack o.start o.end
occurrence-written s o replacements plain itself same =
    itself o.pattern ∙ get_or_from_slice_get s.patterns o.pattern same.0 [] same.1
    ∙ same_text-equal s.pairing same.0 (slice_range s.haystack o.start o.end) plain same.2

-- where no byte is paired and each replacement is its pattern, the text is unchanged
pub replaced-identity : (kind : MatchKind) (s : Search) (at : ℕ) (last : Option ℕ) (replacements : List (List ℕ))
    (picks : List Occurrence) → IsUnpaired s.pairing → ((n : ℕ) → get_or replacements n [] ≡ get_or s.patterns n [])
    → IsWalk kind s at last picks → replaced_from at s.haystack replacements picks ≡ drop at s.haystack
replaced-identity kind s at last replacements [] plain itself walk = refl
replaced-identity kind s at last replacements (o ∷ picks) plain itself walk =
    let x = s.haystack in
    let picked = pick-occurs walk.0 in
    let within = picked.2.within in
    let written = occurrence-written s o replacements plain itself picked.2.same in
    let rest = replaced-identity kind s o.end (Some o.end) replacements picks plain itself walk.1 in
    replaced-pick at x replacements o picks
    ∙ ap₂ (λ w more. slice_range x at o.start ++ (w ++ more)) written rest
    ∙ ap (λ more. slice_range x at o.start ++ more) (sym (drop_split x o.start o.end within.1))
    ∙ sym (drop_split x at o.start (omega (arith, picked.1, within.0)))

-- with no patterns nothing occurs
pub no_rules-occurs : {s : Search} {o : Occurrence} → s.patterns ≡ [] → ¬ Occurs s o
no_rules-occurs {o} none occurs =
    let found : None ≡ Some occurs.same.0 = sym (ap (λ ps. slice_get ps o.pattern) none) ∙ occurs.same.1 in
    absurd (cc)

-- with no patterns a walk has no pick
pub no_rules-walk : (kind : MatchKind) (s : Search) (at : ℕ) (last : Option ℕ) (picks : List Occurrence)
    → s.patterns ≡ [] → IsWalk kind s at last picks → picks ≡ []
no_rules-walk kind s at last [] none walk = refl
no_rules-walk kind s at last (o ∷ picks) none walk =
    let picked = pick-occurs walk.0 in
    absurd (no_rules-occurs none picked.2)

-- with no patterns a listing is empty
pub no_rules-listing : (s : Search) (all : List Occurrence) → s.patterns ≡ [] → IsListing s all → all ≡ []
no_rules-listing s [] none listing = refl
no_rules-listing s (o ∷ os) none listing = absurd (no_rules-occurs none ((listing.1 o).0 (Contains-head os)))

-- with no patterns nothing is computed at any place
no_rules-from_place : (s : Search) (at places : ℕ) → s.patterns ≡ [] → from_place s at places ≡ []
no_rules-from_place s at zero none = refl
no_rules-from_place s at (suc places) none =
    ap₂ (λ here further. here ++ further) (ap (λ ps. at_place s at ps 0) none)
    (no_rules-from_place s (at + 1) places none)

-- with no patterns the computed occurrences are none
pub no_rules-occurrences : (s : Search) → s.patterns ≡ [] → occurrences s ≡ []
no_rules-occurrences s none =
    cond_both s.anchored _ _ (λ (os : List Occurrence). os ≡ []) (λ _. no_rules-from_place s s.start _ none)
    (λ _. no_rules-from_place s s.start _ none)

-- with no patterns a computed walk picks nothing
no_rules-pick_of : (kind : MatchKind) (s : Search) (at : ℕ) (last : Option ℕ) → s.patterns ≡ []
    → pick_of kind s at last ≡ None
no_rules-pick_of kind s at last none = rw (no_rules-occurrences (starting_at s at) none, pick_of, pick_among)

-- with no patterns the computed walk is empty
pub no_rules-walk_of : (kind : MatchKind) (s : Search) → s.patterns ≡ [] → walk_of kind s ≡ []
no_rules-walk_of kind s none =
    walk_from-none occurrences (2 * (s.end + 1 - s.start) + 1) kind s s.start None
    (no_rules-pick_of kind s s.start None none)

-- with no patterns nothing ends at any place
no_rules-to_place : (s : Search) (at places : ℕ) → s.patterns ≡ [] → to_place occurrences s at places ≡ []
no_rules-to_place s at zero none = refl
no_rules-to_place s at (suc places) none =
    ap₂ (λ here further. here ++ further) (ap (filter (λ (o : Occurrence). eqb o.end at)) (no_rules-occurrences s none))
    (no_rules-to_place s (at + 1) places none)

-- with no patterns the computed listing is empty
pub no_rules-listing_of : (s : Search) → s.patterns ≡ [] → listing_of s ≡ []
no_rules-listing_of s none = no_rules-to_place s s.start (s.end + 1 - s.start) none

-- with no patterns the text is unchanged, and nothing is listed
pub no-rules : (kind : MatchKind) (s : Search) (picks all : List Occurrence) (replacements : List (List ℕ))
    → s.patterns ≡ [] → IsWalk kind s s.start None picks → IsListing s all
    → (replaced_from 0 s.haystack replacements picks ≡ s.haystack) × (listed picks ≡ []) × (listed all ≡ [])
no-rules kind s picks all replacements none walk listing =
    let no_picks = no_rules-walk kind s s.start None picks none walk in
    let no_all = no_rules-listing s all none listing in
    (ap (replaced_from 0 s.haystack replacements) no_picks, ap listed no_picks, ap listed no_all)
