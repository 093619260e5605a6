-- Searches give one result under all pairings that pair nothing.
use Rattle.std.proofs.Common.{◌≡◌, ◌↔◌, ℕ, zero, suc, ◌+◌, ◌-◌, ◌*◌, true, ◌&&◌, ◌||◌, ◌==◌, cond, List, [], ◌∷◌, ◌++◌, length, Option, Some, None, slice_range, leb, sym, ap, ap₂, subst, refl, ◌∙◌}
use Rattle.ac_input.specs.declared.search.MatchKind.{MatchKind}
use Rattle.ac_input.specs.Same.{IsUnpaired, same, same_text}
use Rattle.ac_input.specs.Occurrence.{Search, Occurrence, Occurs, starting_at}
use Rattle.ac_input.specs.Best.{IsBest}
use Rattle.ac_input.specs.Computed.{at_place, from_place, occurrences, least, best_of, repeats, pick_of, walk_from, walk_after}
use Rattle.ac_input.proofs.lemmas.BestLemmas.{IsLeast-like}

-- the same search under another pairing
abbrev under : Search → List ℕ → Search
under s pairing = record s { pairing = pairing }

-- pairings that pair nothing give the same bytes as the same
same-unpaired : (one another : List ℕ) → IsUnpaired one → IsUnpaired another → (a b : ℕ)
    → same one a b ≡ same another a b
same-unpaired one another f g a b = ap (λ x. (a == b) || (x == b)) (f a ∙ sym (g a))

-- pairings that pair nothing give the same texts as the same
pub same_text-unpaired : (one another : List ℕ) → IsUnpaired one → IsUnpaired another → (xs ys : List ℕ)
    → same_text one xs ys ≡ same_text another xs ys
same_text-unpaired one another f g [] [] = refl
same_text-unpaired one another f g [] (y ∷ ys) = refl
same_text-unpaired one another f g (x ∷ xs) [] = refl
same_text-unpaired one another f g (x ∷ xs) (y ∷ ys) =
    ap₂ ◌&&◌ (same-unpaired one another f g x y) (same_text-unpaired one another f g xs ys)

-- what occurs under one pairing that pairs nothing occurs under another
pub occurs-unpaired : (s : Search) {one another : List ℕ} → IsUnpaired one → IsUnpaired another → {o : Occurrence}
    → Occurs (under s one) o → Occurs (under s another) o
occurs-unpaired s {one} {another} f g {o} h = record {
  within = h.within;
  same = (
    h.same.0,
    h.same.1,
    subst (λ t. t ≡ true) (same_text-unpaired one another f g h.same.0 (slice_range s.haystack o.start o.end))
        h.same.2,
  );
  anchor = h.anchor;
}

-- the best is the same under both pairings
pub best-unpaired : (kind : MatchKind) (s : Search) (one another : List ℕ) → IsUnpaired one → IsUnpaired another
    → (r : Option Occurrence) → IsBest kind (under s one) r ↔ IsBest kind (under s another) r
best-unpaired kind s one another f g r = (
  IsLeast-like kind (λ o. (occurs-unpaired s f g, occurs-unpaired s g f)) r,
  IsLeast-like kind (λ o. (occurs-unpaired s g f, occurs-unpaired s f g)) r,
)

-- the occurrences at a place are the same under both pairings
at_place-unpaired : (s : Search) (one another : List ℕ) → IsUnpaired one → IsUnpaired another
    → (at : ℕ) (ps : List (List ℕ)) (n : ℕ) → at_place (under s one) at ps n ≡ at_place (under s another) at ps n
at_place-unpaired s one another f g at [] n = refl
at_place-unpaired s one another f g at (p ∷ ps) n =
    ap₂
    (λ lies more. cond (leb (at + length p) s.end && lies)
    (record { pattern = n; start = at; end = at + length p } ∷ more) more)
    (same_text-unpaired one another f g p (slice_range s.haystack at (at + length p)))
    (at_place-unpaired s one another f g at ps (n + 1))

-- the occurrences at some places are the same under both pairings
from_place-unpaired : (s : Search) (one another : List ℕ) → IsUnpaired one → IsUnpaired another → (at places : ℕ)
    → from_place (under s one) at places ≡ from_place (under s another) at places
from_place-unpaired s one another f g at zero = refl
from_place-unpaired s one another f g at (suc places) =
    ap₂ ◌++◌ (at_place-unpaired s one another f g at s.patterns 0)
    (from_place-unpaired s one another f g (at + 1) places)

-- the computed occurrences are the same under both pairings
pub occurrences-unpaired : (s : Search) (one another : List ℕ) → IsUnpaired one → IsUnpaired another
    → occurrences (under s one) ≡ occurrences (under s another)
occurrences-unpaired s one another f g =
    ap₂
    (λ first all. cond s.anchored first all)
    (from_place-unpaired s one another f g s.start (cond (leb s.start s.end) 1 0))
    (from_place-unpaired s one another f g s.start (s.end + 1 - s.start))

-- the computed best is the same under both pairings
pub best_of-unpaired : (kind : MatchKind) (s : Search) (one another : List ℕ) → IsUnpaired one → IsUnpaired another
    → best_of kind (under s one) ≡ best_of kind (under s another)
best_of-unpaired kind s one another f g = ap (least kind) (occurrences-unpaired s one another f g)

-- the computed pick is the same under both pairings
pub pick_of-unpaired : (kind : MatchKind) (s : Search) (one another : List ℕ) → IsUnpaired one → IsUnpaired another
    → (at : ℕ) (last : Option ℕ) → pick_of kind (under s one) at last ≡ pick_of kind (under s another) at last
pick_of-unpaired kind s one another f g at last =
    ap₂
    (λ here further. elim here [ None ↦ None | Some b ↦ cond (repeats last b) further (Some b) ])
    (best_of-unpaired kind (starting_at s at) one another f g)
    (best_of-unpaired kind (starting_at s (at + 1)) one another f g)

-- a turn of a walk: the pick, and then the walk from its end
abbrev turn : (Occurrence → List Occurrence) → Option Occurrence → List Occurrence
turn more r = elim r [ None ↦ [] | Some o ↦ o ∷ more o ]

-- turns that go on in the same way are equal
turn-alike : {one another : Occurrence → List Occurrence} → ((o : Occurrence) → one o ≡ another o)
    → (r : Option Occurrence) → turn one r ≡ turn another r
turn-alike alike None = refl
turn-alike alike (Some o) = ap (λ os. o ∷ os) (alike o)

-- the computed walk of a number of turns is the same under both pairings
walk_from-unpaired : (turns : ℕ) (kind : MatchKind) (s : Search) (one another : List ℕ) → IsUnpaired one
    → IsUnpaired another → (at : ℕ) (last : Option ℕ)
    → walk_from occurrences turns kind (under s one) at last ≡ walk_from occurrences turns kind (under s another) at last
walk_from-unpaired zero kind s one another f g at last = refl
walk_from-unpaired (suc turns) kind s one another f g at last =
    ap (turn (λ (o : Occurrence). walk_from occurrences turns kind (under s one) o.end (Some o.end)))
    (pick_of-unpaired kind s one another f g at last)
    ∙ turn-alike
    (λ o. walk_from-unpaired turns kind s one another f g o.end (Some o.end))
    (pick_of kind (under s another) at last)

-- the computed walk from a place is the same under both pairings
pub walk_after-unpaired : (kind : MatchKind) (s : Search) (one another : List ℕ) → IsUnpaired one → IsUnpaired another
    → (at : ℕ) (last : Option ℕ) → walk_after kind (under s one) at last ≡ walk_after kind (under s another) at last
walk_after-unpaired kind s one another f g at last =
    walk_from-unpaired (2 * (s.end + 1 - at) + 1) kind s one another f g at last
