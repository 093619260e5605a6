-- What a search of the beginning of a text finds, compared with a search of the whole text.
use Rattle.std.proofs.Common.{◌≡◌, ◌↔◌, ℕ, ◌+◌, ◌-◌, ◌<◌, ◌≤◌, Bool, true, false, List, [], ◌∷◌, ◌++◌, length, take, drop, Option, Some, None, IsTrue, Contains, slice_range, ltb, sym, ap, subst, refl, ◌∙◌, ⊎_elim, arith}
use Rattle.std.specs.List.{filter}
use Rattle.std.proofs.lemmas.List.{take-append-le, drop-append-le, length-drop, length-append}
use Rattle.std.proofs.lemmas.List.Elements.{Contains-append_left, Contains-append_right, Contains-append_cases}
use Rattle.std.proofs.lemmas.Bool.{cases_lt, ltb-true, lt-ltb}
use Rattle.std.proofs.lemmas.Option.{same_Some, none-some}
use Rattle.ac_input.specs.declared.search.MatchKind.{MatchKind}
use Rattle.ac_input.specs.declared.search.MatchKind.TheVariants.{Standard}
use Rattle.ac_input.specs.Same.{same_text}
use Rattle.ac_input.specs.Occurrence.{Search, Occurrence, Occurs, starting_at}
use Rattle.ac_input.specs.Best.{IsBest, asked_kind}
use Rattle.ac_input.specs.Walk.{Repeats, IsPick, Here, Further, IsWalk}
use Rattle.ac_input.specs.Listing.{IsListing}
use Rattle.ac_input.specs.Dictionary.{Dictionary, whole}
use Rattle.ac_input.specs.Text.{listed}
use Rattle.ac_input.specs.Computed.{walk_of, listing_of}
use Rattle.ac_input.specs.Laws.BeginningLaws.{IsBeginning, longer}
use Rattle.ac_input.proofs.lemmas.ContainsLemmas.{Contains-filter, Contains-from_filter}
use Rattle.ac_input.proofs.lemmas.OrderLemmas.{less-not_greater}
use Rattle.ac_input.proofs.lemmas.RisingLemmas.{less_by_end, IsRising-filter, IsRising-append}
use Rattle.ac_input.proofs.lemmas.BestLemmas.{least-unique_standard}
use Rattle.ac_input.proofs.lemmas.WalkLemmas.{walk_of-walk}
use Rattle.ac_input.proofs.lemmas.ListingLemmas.{listing-unique, listing_of-lists}
use Rattle.ac_input.proofs.lemmas.TextLemmas.{listed-append}

-- a part of a text is unchanged when the text goes on
pub slice_range-append : (x more : List ℕ) {a b : ℕ} → a ≤ b → b ≤ length x
    → slice_range (x ++ more) a b ≡ slice_range x a b
slice_range-append x more {a} {b} g h =
    let d = length-drop a x in
    ap (take (b - a)) (drop-append-le a x more (omega arith)) ∙ take-append-le (b - a) (drop a x) more (omega arith)

-- what occurs in a search occurs in the longer one
pub occurs-longer : {s : Search} (more : List ℕ) {end : ℕ} {o : Occurrence} → s.end ≤ length s.haystack → s.end ≤ end
    → Occurs s o → Occurs (longer s more end) o
occurs-longer {s} more inside le h =
    let w = h.within in
    let e = slice_range-append s.haystack more w.1 (omega arith) in
    record {
      within = (w.0, w.1, omega arith);
      same = (h.same.0, h.same.1, subst (λ text. IsTrue (same_text s.pairing h.same.0 text)) (sym e) h.same.2);
      anchor = h.anchor;
    }

-- what occurs in the longer search and ends within the shorter one occurs in that
pub longer-occurs : {s : Search} (more : List ℕ) {end : ℕ} {o : Occurrence} → s.end ≤ length s.haystack → o.end ≤ s.end
    → Occurs (longer s more end) o → Occurs s o
longer-occurs {s} more inside le h =
    let w = h.within in
    let e = slice_range-append s.haystack more w.1 (omega arith) in
    record {
      within = (w.0, w.1, le);
      same = (h.same.0, h.same.1, subst (λ text. IsTrue (same_text s.pairing h.same.0 text)) e h.same.2);
      anchor = h.anchor;
    }

-- what occurs in a search is exactly what occurs in the longer one and ends within the shorter one
pub beginning-occurs : (s : Search) (more : List ℕ) (end : ℕ) (o : Occurrence) → s.end ≤ length s.haystack → s.end ≤ end
    → Occurs s o ↔ (Occurs (longer s more end) o × (o.end ≤ s.end))
beginning-occurs s more end o inside le =
    (λ h. (occurs-longer more inside le h, h.within.2), λ h. longer-occurs more inside h.1 h.0)

-- under standard the best stays the best, however the haystack goes on: what is new ends later
pub best-longer : {s : Search} (more : List ℕ) {end : ℕ} {o : Occurrence} → s.end ≤ length s.haystack → s.end ≤ end
    → IsBest Standard s (Some o) → IsBest Standard (longer s more end) (Some o)
best-longer {s} more {end} {o} inside le h = (
  occurs-longer more inside le h.0,
  λ q k. ⊎_elim
      (λ (later : s.end < q.end). let w = h.0.within in less-not_greater (less_by_end o q (omega arith)))
      (λ (early : q.end ≤ s.end). h.1 q (longer-occurs more inside early k))
      (cases_lt s.end q.end),
)

-- a best that repeats the pick before it is the best of the longer search, too
pub repeated-longer : (s : Search) (more : List ℕ) {end : ℕ} (at : ℕ) (last : Option ℕ) (b : Option Occurrence)
    → s.end ≤ length s.haystack → s.end ≤ end → IsBest Standard (starting_at s at) b → Repeats last b
    → IsBest Standard (starting_at (longer s more end) at) b
repeated-longer s more at None b inside le h rep = absurd rep
repeated-longer s more at (Some l) None inside le h rep = absurd rep
repeated-longer s more at (Some l) (Some b) inside le h rep = best-longer more inside le h

-- under standard a pick stays the pick, however the haystack goes on
pub pick-longer : (s : Search) (more : List ℕ) (end at : ℕ) (last : Option ℕ) (o : Occurrence)
    → s.end ≤ length s.haystack → s.end ≤ end → IsPick Standard s at last (Some o)
    → IsPick Standard (longer s more end) at last (Some o)
pick-longer s more end at last o inside le (Here h n) = Here (best-longer more inside le h) n
pick-longer s more end at last o inside le (Further b h rep k) =
    Further b (repeated-longer s more at last b inside le h rep) rep (best-longer more inside le k)

-- under standard a walk has at most one next pick, whatever the span
pub standard-pick_unique : {s : Search} {at : ℕ} {last : Option ℕ} {a b : Option Occurrence}
    → IsPick Standard s at last a → IsPick Standard s at last b → a ≡ b
standard-pick_unique {s} {at} {a} {b} (Here g n) (Here h m) = least-unique_standard (Occurs (starting_at s at)) a b g h
standard-pick_unique {s} {at} {last} {a} (Here g n) (Further c h rep k) =
    absurd (n (subst (Repeats last) (least-unique_standard (Occurs (starting_at s at)) c a h g) rep))
standard-pick_unique {s} {at} {last} {b} (Further c g rep k) (Here h m) =
    absurd (m (subst (Repeats last) (least-unique_standard (Occurs (starting_at s at)) c b g h) rep))
standard-pick_unique {s} {at} {a} {b} (Further c g rep k) (Further d h rep' l) =
    least-unique_standard (Occurs (starting_at s (at + 1))) a b k l

-- under standard the walk of a beginning is a beginning of the walk
pub walk-longer : (s : Search) (more : List ℕ) (end at : ℕ) (last : Option ℕ) (fewer picks : List Occurrence)
    → s.end ≤ length s.haystack → s.end ≤ end → IsWalk Standard s at last fewer
    → IsWalk Standard (longer s more end) at last picks → IsBeginning fewer picks
walk-longer s more end at last [] picks inside le g h = (picks, refl)
walk-longer s more end at last (o ∷ os) [] inside le g h =
    absurd (none-some o (standard-pick_unique h (pick-longer s more end at last o inside le g.0)))
walk-longer s more end at last (o ∷ os) (q ∷ qs) inside le g h =
    let e : q ≡ o = same_Some q o (standard-pick_unique h.0 (pick-longer s more end at last o inside le g.0)) in
    let k : IsWalk Standard (longer s more end) o.end (Some o.end) qs =
    subst (λ x. IsWalk Standard (longer s more end) x.end (Some x.end) qs) e h.1 in
    let t = walk-longer s more end o.end (Some o.end) os qs inside le g.1 k in
    let same : qs ≡ os ++ t.0 = t.1 in
    (t.0, let z : q ∷ qs ≡ o ∷ (os ++ t.0) = cc in z)

-- the lines of a beginning are a beginning of the lines
pub listed-beginning : (fewer : List Occurrence) {all : List Occurrence} → IsBeginning fewer all
    → IsBeginning (listed fewer) (listed all)
listed-beginning fewer (rest, split) = (listed rest, ap listed split ∙ listed-append fewer rest)

-- the occurrences of a listing that end after a place
abbrev behind : ℕ → List Occurrence → List Occurrence
behind place all = filter (λ (o : Occurrence). ltb place o.end) all

-- the listing of a beginning, followed by the occurrences that end after the beginning, is the whole overlapping
-- listing
listing-longer_is : (s : Search) (more : List ℕ) (end : ℕ) (fewer all : List Occurrence) → s.end ≤ length s.haystack
    → s.end ≤ end → IsListing s fewer → IsListing (longer s more end) all
    → IsListing (longer s more end) (fewer ++ behind s.end all)
listing-longer_is s more end fewer all inside le g h =
    let test = λ (o : Occurrence). ltb s.end o.end in
    let ends_behind = λ (o : Occurrence) (c : Contains (behind s.end all) o).
    ltb-true s.end o.end (Contains-from_filter test all c).1 in (
      IsRising-append fewer (behind s.end all) g.0 (IsRising-filter test all h.0)
          (λ a b a_in b_in. let w = ((g.1 a).0 a_in).within in let later : s.end < b.end = ends_behind b b_in in
          less_by_end a b (omega arith)),
      λ o. (
        λ c. ⊎_elim
            (λ first. occurs-longer more inside le ((g.1 o).0 first))
            (λ second. (h.1 o).0 (Contains-from_filter test all second).0)
            (Contains-append_cases fewer (behind s.end all) o c),
        λ occurs. ⊎_elim
            (λ (later : s.end < o.end). Contains-append_right fewer (behind s.end all) o
            (Contains-filter test all ((h.1 o).1 occurs) (lt-ltb s.end o.end later)))
            (λ (early : o.end ≤ s.end). Contains-append_left fewer (behind s.end all) o
            ((g.1 o).1 (longer-occurs more inside early occurs)))
            (cases_lt s.end o.end),
      ),
    )

-- the overlapping listing of a beginning is a beginning of the overlapping listing
pub listing-longer : (s : Search) (more : List ℕ) (end : ℕ) (fewer all : List Occurrence) → s.end ≤ length s.haystack
    → s.end ≤ end → IsListing s fewer → IsListing (longer s more end) all → IsBeginning fewer all
listing-longer s more end fewer all inside le g h = (
  behind s.end all,
  listing-unique (longer s more end) all (fewer ++ behind s.end all) h
      (listing-longer_is s more end fewer all inside le g h),
)

-- under standard the computed walk of a beginning of a text is a beginning of the text's
pub whole-walk_begins : (m : Dictionary) (text more : List ℕ) (anchored : Bool)
    → IsBeginning (walk_of Standard (whole m text anchored)) (walk_of Standard (whole m (text ++ more) anchored))
whole-walk_begins m text more anchored =
    let inside : length text ≤ length text = omega arith in
    let le : length text ≤ length (text ++ more) = omega (arith, length-append text more) in
    let inside_whole : length (text ++ more) ≤ length (text ++ more) = omega arith in
    walk-longer (whole m text anchored) more (length (text ++ more)) 0 None (walk_of Standard (whole m text anchored))
    (walk_of Standard (whole m (text ++ more) anchored)) inside le
    (walk_of-walk Standard (whole m text anchored) inside)
    (walk_of-walk Standard (whole m (text ++ more) anchored) inside_whole)

-- under standard the list of matches of a beginning of a text is a beginning of the text's list
pub whole-listed_begins : (m : Dictionary) (text more : List ℕ) (anchored : Bool)
    → IsBeginning (listed (walk_of Standard (whole m text anchored)))
    (listed (walk_of Standard (whole m (text ++ more) anchored)))
whole-listed_begins m text more anchored =
    listed-beginning (walk_of Standard (whole m text anchored)) (whole-walk_begins m text more anchored)

-- the computed overlapping listing of a beginning of a text is a beginning of the text's
whole-listing_begins : (m : Dictionary) (text more : List ℕ) (anchored : Bool)
    → IsBeginning (listing_of (whole m text anchored)) (listing_of (whole m (text ++ more) anchored))
whole-listing_begins m text more anchored =
    let inside : length text ≤ length text = omega arith in
    let le : length text ≤ length (text ++ more) = omega (arith, length-append text more) in
    let inside_whole : length (text ++ more) ≤ length (text ++ more) = omega arith in
    listing-longer (whole m text anchored) more (length (text ++ more)) (listing_of (whole m text anchored))
    (listing_of (whole m (text ++ more) anchored)) inside le
    (listing_of-lists inside)
    (listing_of-lists inside_whole)

-- the computed overlapping listing of a beginning of a text, and the list written from it, are beginnings of those of
-- the text
pub whole-overlapping_begins : (m : Dictionary) (text more : List ℕ) (anchored : Bool)
    → IsBeginning (listing_of (whole m text anchored)) (listing_of (whole m (text ++ more) anchored))
    × IsBeginning (listed (listing_of (whole m text anchored))) (listed (listing_of (whole m (text ++ more) anchored)))
whole-overlapping_begins m text more anchored =
    let begins = whole-listing_begins m text more anchored in
    (begins, listed-beginning (listing_of (whole m text anchored)) begins)

-- An earliest search takes the standard best whatever the kind, and under standard each search is an earliest one.
pub earliest-standard : (kind : MatchKind) (earliest : Bool) (s : Search) (r : Option Occurrence)
    → (IsBest (asked_kind kind true) s r ↔ IsBest Standard s r)
    × (IsBest (asked_kind Standard earliest) s r ↔ IsBest Standard s r)
earliest-standard kind true s r = ((λ h. h, λ h. h), (λ h. h, λ h. h))
earliest-standard kind false s r = ((λ h. h, λ h. h), (λ h. h, λ h. h))
