-- Masking by one walk over a text: which bytes get the mask as the automaton reads on, and what a call in memory returns.
pub mod Words
use Rattle.std.specs.Prelude.{false, ◌≡◌, ℕ, ◌+◌, ◌-◌, ◌*◌, ◌<◌, ◌≤◌, List, ◌++◌, length, take, drop, replicate, slice_get, slice_index, get_or, [], Some, Result, Ok, Err}
use Rattle.ac_input.specs.Number.{StateID}
use Rattle.ac_input.specs.declared.search.Anchored.{Anchored}
use Rattle.ac_input.specs.declared.search.Anchored.TheVariants.{No}
use Rattle.ac_input.specs.declared.search.MatchKind.TheVariants.{Standard}
use Rattle.ac_input.specs.declared.steps.Steps.{Steps}
use Rattle.ac_input.specs.Dictionary.{whole}
use Rattle.ac_input.specs.Input.{whole_of}
use Rattle.ac_input.specs.Mask.{masked}
use Rattle.ac_input.specs.Work.{lookups_per_byte}
use Rattle.ac_automaton.specs.Automaton.{Built, Leads}
use Rattle.ac_automaton.specs.InMemory.Overlapping.{IsOverlappingRefusal}
use Rattle.ac_automaton.specs.declared.error.MatchErrorKind.{MatchErrorKind}
use Rattle.ac_automaton.specs.declared.masking.Stretch.{Stretch}

-- the masked text, of an automaton's patterns
abbrev pub masked_in : Built → ℕ → List ℕ → List ℕ
masked_in b mask x = masked mask (whole b.dictionary x false)

-- the bytes, with the mask from one place to another
abbrev pub masked_between : ℕ → List ℕ → ℕ → ℕ → List ℕ
masked_between mask bytes start end = take start bytes ++ (replicate (end - start) mask ++ drop end bytes)

-- The bytes of the stretch have the mask, and it ends at the place or before.
pub record IsMaskedStretch (mask : ℕ) (bytes : List ℕ) (at : ℕ) (s : Stretch) : Type 0 where
  pub order : s.start ≤ s.end
  pub within : s.end ≤ at
  pub masked : (i : ℕ) → s.start ≤ i → i < s.end → slice_index bytes i ≡ mask

-- The longest pattern that matches at a state gets the mask where it ends, as far as its bytes are held.
pub record MasksLongest (b : Built) (matches : StateID → List ℕ) (mask : ℕ) (sid : StateID) (at : ℕ)
    (before after : List ℕ) : Type 0 where
  pub pattern : ℕ
  pub first : slice_get (matches sid) 0 ≡ Some pattern
  pub masked : after ≡ masked_between mask before (at - length (get_or b.dictionary.patterns pattern [])) at

-- Held bytes are masked from a place on. Whatever text the search has read up to there, if the bytes before the place were
-- the end of its masked text, then all of them are now the end of the masked text with the bytes after the place.
pub record MasksFrom (b : Built) (Reaches : List ℕ → StateID → Type 0) (mask : ℕ) (sid : StateID) (from : ℕ)
    (before after : List ℕ) (next : StateID) : Type 0 where
  pub len : length after ≡ length before
  pub reads : Leads Reaches sid (drop from before) next
  pub masked : (x : List ℕ) (base : ℕ) → Reaches x sid → length x ≡ base + from
      → take from before ≡ drop base (masked_in b mask x)
      → after ≡ drop base (masked_in b mask (x ++ drop from before))

-- The text was masked in place; or an overlapping search isn't supported, and the text is unchanged.
abbrev pub Masks : Built → (Anchored → Type 0) → ℕ → List ℕ → List ℕ → Result (Unit {0}) MatchErrorKind → Type 0
Masks b supports mask before after (Ok done) =
    supports No × (b.dictionary.kind ≡ Standard) × (after ≡ masked_in b mask before)
Masks b supports mask before after (Err error) =
    IsOverlappingRefusal b supports (whole_of []) error × (after ≡ before)

-- What it costs to mask so many bytes, as they are read: at least one look for each, and at most one, or two if the
-- automaton isn't deterministic.
pub record IsMaskCost (b : Built) (n : ℕ) (before after : Steps) : Type 0 where
  pub some : before.looked.value + n ≤ after.looked.value
  pub looked : after.looked.value ≤ before.looked.value + lookups_per_byte b.deterministic * n
  pub scanned : after.scanned.value ≡ before.scanned.value

-- what masking in memory costs; an error costs nothing
abbrev pub CostsMask : Built → List ℕ → Steps → Steps → Result (Unit {0}) MatchErrorKind → Type 0
CostsMask b text before after (Ok done) = IsMaskCost b (length text) before after × (after.moved.value ≡ before.moved.value)
CostsMask b text before after (Err error) = after ≡ before
