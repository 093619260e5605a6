-- Masking whole words by one walk over a text: where it stands, which bytes it has masked, what a call in memory returns, and
-- what it costs.
pub mod Pushed
pub mod Stream
use Rattle.std.specs.Prelude.{◌≡◌, ◌⊎◌, ℕ, ◌+◌, ◌-◌, ◌<◌, ◌≤◌, Bool, true, false, List, [], length, slice_index, slice_range, Option, Result, Ok, Err}
use Rattle.ac_input.specs.Number.{StateID}
use Rattle.ac_input.specs.declared.search.Anchored.{Anchored}
use Rattle.ac_input.specs.declared.search.Anchored.TheVariants.{No}
use Rattle.ac_input.specs.declared.search.MatchKind.TheVariants.{Standard}
use Rattle.ac_input.specs.declared.steps.Steps.{Steps}
use Rattle.ac_input.specs.Dictionary.{Dictionary, IsLive, live_len, whole}
use Rattle.ac_input.specs.Input.{whole_of}
use Rattle.ac_input.specs.Mask.{IsCoveredAmong, masked_among}
use Rattle.ac_input.specs.Occurrence.{Occurrence, Occurs, Search}
use Rattle.ac_input.specs.Word.{OccursWhole, whole_occurrences}
use Rattle.ac_input.specs.Work.{IsLookups, longest}
use Rattle.ac_automaton.specs.Automaton.{Built}
use Rattle.ac_automaton.specs.InMemory.Overlapping.{IsOverlappingRefusal}
use Rattle.ac_automaton.specs.Masking.{IsMaskCost}
use Rattle.ac_automaton.specs.Words.{IsWindowOf}
use Rattle.ac_automaton.specs.declared.automaton.Automaton.{Ghosts}
use Rattle.ac_automaton.specs.declared.error.ReplaceError.{ReplaceError}
use Rattle.ac_automaton.specs.declared.error.ReplaceError.TheVariants.{Match, Memory}
use Rattle.ac_automaton.specs.declared.masking.words.MaskPlace.{MaskPlace}
use Rattle.ac_automaton.specs.declared.words.Window.{Window}

-- the masked text, where whole words alone count, of an automaton's patterns
abbrev pub masked_words_in : Built → ℕ → List ℕ → List ℕ
masked_words_in b mask x = masked_among whole_occurrences mask (whole b.dictionary x false)

-- a whole word that ends before a place
abbrev pub EndsBefore : ℕ → Search → Occurrence → Type 0
EndsBefore end s o = OccursWhole s o × (o.end < end)

-- The bytes are those of a text from a place on, with the mask at each place that a whole word covers which ends before
-- another place.
pub record ShowsMasked (m : Dictionary) (mask from end : ℕ) (x bytes : List ℕ) : Type 0 where
  pub len : from + length bytes ≡ length x
  pub covered : (i : ℕ) → IsCoveredAmong (EndsBefore end) (whole m x false) (from + i) → slice_index bytes i ≡ mask
  pub kept : (i : ℕ) → ¬ IsCoveredAmong (EndsBefore end) (whole m x false) (from + i)
      → slice_index bytes i ≡ slice_index x (from + i)

-- Where a walk that masks whole words stands in a text: the bytes before its place lead to its state.
pub record IsMaskPlace (Reaches : List ℕ → StateID → Type 0) (x : List ℕ) (p : MaskPlace) : Type 0 where
  pub within : p.at ≤ length x
  pub reads : Reaches (slice_range x 0 p.at) p.sid

-- It stands right, and in the bytes from `from` on the words are masked that end before another place.
pub record HasMaskedWords (m : Dictionary) (Reaches : List ℕ → StateID → Type 0) (mask from end : ℕ) (x : List ℕ)
    (p : MaskPlace) (bytes : List ℕ) : Type 0 where
  pub place : IsMaskPlace Reaches x p
  pub shows : ShowsMasked m mask from end x bytes

-- It went from one place to another, and no occurrence ends between the two.
abbrev pub PassesQuietly : Dictionary → (List ℕ → StateID → Type 0) → List ℕ → MaskPlace → MaskPlace → Type 0
PassesQuietly m Reaches x p q =
    IsMaskPlace Reaches x q
    × ((o : Occurrence) → Occurs (whole m x false) o → p.at < o.end → q.at ≤ o.end)

-- The longest whole word that ends at a place begins at `start`; or none that ends there has bytes, and `start` is the place.
abbrev pub IsLongestWord : Dictionary → List ℕ → ℕ → ℕ → Type 0
IsLongestWord m x at start =
    (start ≤ at)
    × ((o : Occurrence) → OccursWhole (whole m x false) o → o.end ≡ at → start ≤ o.start)
    × ((start ≡ at) ⊎ ((o : Occurrence) × OccursWhole (whole m x false) o × (o.end ≡ at) × (o.start ≡ start)))

-- before which place a word has to end to be known: before the last byte's end, or anywhere if nothing follows
abbrev pub known_to : Bool → List ℕ → ℕ
known_to true x = length x + 1
known_to false x = length x

-- A text was read to its end, and each word that is known is masked in the bytes from `from` on.
abbrev pub MasksKnown : Dictionary → (List ℕ → StateID → Type 0) → ℕ → ℕ → Bool → List ℕ → MaskPlace → List ℕ → Type 0
MasksKnown m Reaches mask from closed x p bytes =
    (p.at ≡ length x) × HasMaskedWords m Reaches mask from (known_to closed x) x p bytes

-- The bytes from `from` on reach back far enough: they have each word that ends at the place or later, and the byte before it.
abbrev pub HoldsWords : Built → ℕ → ℕ → Type 0
HoldsWords b from at = 0 < from → from + longest b.dictionary.patterns < at

-- what it may cost to read a text on from one place to another
abbrev pub CostsReading : Built → List ℕ → ℕ → ℕ → Steps → Steps → Type 0
CostsReading b x from to before after =
    (live live_after : Option ℕ) → IsLive b.dictionary false (slice_range x 0 from) live
    → IsLive b.dictionary false (slice_range x 0 to) live_after
    → IsLookups b.deterministic (to - from) (live_len (slice_range x 0 from) live)
    (live_len (slice_range x 0 to) live_after) before after

-- ---- of what a window shows

-- a window shows a text, of which the bytes are masked up to where a walk stands
abbrev pub MayMaskWords : {S : Type 0} → Ghosts S → S → ℕ → Window → MaskPlace → List ℕ → Type 0
MayMaskWords A a mask w p bytes =
    (x : List ℕ) × IsWindowOf w x × HasMaskedWords (A.built a).dictionary (A.Reaches a No) mask w.from p.at x p bytes

-- whatever text it shows, each word that is known is masked then
abbrev pub MasksWindow : {S : Type 0} → Ghosts S → S → ℕ → Window → MaskPlace → List ℕ → MaskPlace → List ℕ → Type 0
MasksWindow A a mask w p before q after =
    (x : List ℕ) → IsWindowOf w x
    → HasMaskedWords (A.built a).dictionary (A.Reaches a No) mask w.from p.at x p before
    → MasksKnown (A.built a).dictionary (A.Reaches a No) mask w.from w.closed x q after

-- what it may cost to read it on
abbrev pub CostsWindow : {S : Type 0} → Ghosts S → S → Window → MaskPlace → MaskPlace → Steps → Steps → Type 0
CostsWindow A a w p q before after =
    (x : List ℕ) → IsWindowOf w x → IsMaskPlace (A.Reaches a No) x p → CostsReading (A.built a) x p.at q.at before after

-- ---- in memory

-- The whole words of the text were masked in place; or the text is unchanged, since an overlapping search isn't supported, or
-- there was no memory for a copy.
abbrev pub MasksWords : Built → (Anchored → Type 0) → ℕ → List ℕ → List ℕ → Result (Unit {0}) ReplaceError → Type 0
MasksWords b supports mask before after (Ok done) =
    supports No × (b.dictionary.kind ≡ Standard) × (after ≡ masked_words_in b mask before)
MasksWords b supports mask before after (Err (Match error)) =
    IsOverlappingRefusal b supports (whole_of []) error × (after ≡ before)
MasksWords b supports mask before after (Err Memory) =
    supports No × (b.dictionary.kind ≡ Standard) × (after ≡ before)

-- what it costs; an error costs nothing
abbrev pub CostsMaskWords : Built → List ℕ → Steps → Steps → Result (Unit {0}) ReplaceError → Type 0
CostsMaskWords b text before after (Ok done) = IsMaskCost b (length text) before after × (after.moved.value ≡ before.moved.value)
CostsMaskWords b text before after (Err error) = after ≡ before
