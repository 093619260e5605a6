-- What the list of a state says about the text that reached it.
use Rattle.std.specs.Prelude.{◌≡◌, ◌↔◌, ℕ, ◌-◌, List, [], ◌∷◌, length, Option, Some, None, map, get_or, false, true, ◌==◌}
use Rattle.std.specs.List.{filter}
use Rattle.ac_input.specs.declared.search.MatchKind.{MatchKind}
use Rattle.ac_input.specs.declared.search.MatchKind.TheVariants.{Standard}
use Rattle.ac_input.specs.declared.search.Anchored.{Anchored}
use Rattle.ac_input.specs.declared.search.Anchored.TheVariants.{No, Yes}
use Rattle.ac_input.specs.Occurrence.{Occurrence, Occurs}
use Rattle.ac_input.specs.Best.{IsBest}
use Rattle.ac_input.specs.Listing.{ListsAll}
use Rattle.ac_input.specs.Dictionary.{Dictionary, IsEntered, whole}

-- the match of pattern n that ends at a place
abbrev pub ending_at : Dictionary → ℕ → ℕ → Occurrence
ending_at m at n = record { pattern = n; start = at - length (get_or m.patterns n []); end = at }

-- the match of pattern n that ends where the text ends
abbrev pub ending : Dictionary → List ℕ → ℕ → Occurrence
ending m text n = ending_at m (length text) n

-- all but the last byte
abbrev pub before_last : List ℕ → List ℕ
before_last [] = []
before_last (b ∷ []) = []
before_last (b ∷ c ∷ bs) = b ∷ before_last (c ∷ bs)

-- What a list says from the unanchored start. Under standard it is all patterns that the text ends in, the longest
-- first, then by number. Under a leftmost kind the first of the list is the best of the text, and ends where the text
-- ends. If the list is empty, the last byte has not changed the best; an empty text then has none.
abbrev pub TellsUnanchored : MatchKind → Dictionary → List ℕ → List ℕ → Type 0
TellsUnanchored Standard m text ns =
    ListsAll (λ o. Occurs (whole m text false) o × (o.end ≡ length text)) (map (ending m text) ns)
TellsUnanchored kind m [] [] = IsBest kind (whole m [] false) None
TellsUnanchored kind m (b ∷ bs) [] =
    (r : Option Occurrence) → IsBest kind (whole m (before_last (b ∷ bs)) false) r
    ↔ IsBest kind (whole m (b ∷ bs) false) r
TellsUnanchored kind m text (n ∷ ns) = IsBest kind (whole m text false) (Some (ending m text n))

-- What a list says from the start of either anchoring. From the anchored start, its patterns that are as long as the
-- text are the entered patterns that match the whole text.
abbrev pub Tells : Dictionary → Anchored → List ℕ → List ℕ → Type 0
Tells m No text ns = TellsUnanchored m.kind m text ns
Tells m Yes text ns =
    ListsAll (λ o. Occurs (whole m text true) o × (o.end ≡ length text) × ((p : List ℕ) × IsEntered m o.pattern p))
    (map (ending m text) (filter (λ n. length (get_or m.patterns n []) == length text) ns))
