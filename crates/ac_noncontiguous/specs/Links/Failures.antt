-- How the failure of a state is computed from the failures of shallower states.
use Rattle.std.specs.Prelude.{◌≡◌, ◌≢◌, ◌⊎◌, ℕ, ◌<◌, ◌≤◌, List, [], ◌∷◌, ◌++◌, ◌+◌, length, slice_get, Option, Some, None, option_map, Bool, true, false}
use Rattle.ac_input.specs.declared.search.MatchKind.{MatchKind}
use Rattle.ac_input.specs.declared.search.MatchKind.TheVariants.{Standard}
use Rattle.ac_input.specs.Dictionary.{Dictionary}
use Rattle.ac_input.specs.Failure.{IsOwn}
use Rattle.ac_input.specs.Laws.LiveLaws.{canonical}
use Rattle.ac_input.specs.States.{LeadsTo, FailsTo}
use Rattle.ac_noncontiguous.specs.declared.trie.State.{State}
use Rattle.ac_noncontiguous.specs.declared.trie.Trie.{Trie}
use Rattle.ac_noncontiguous.specs.Trie.Tree.{parent, byte, depth, text, is_match}
use Rattle.ac_noncontiguous.specs.Trie.Entering.{HasNoChild}
use Rattle.ac_noncontiguous.specs.Trie.Kept.{IsTrieOf}

-- the child of the state for the byte, or none where it has none
abbrev pub IsChildOf : List State → ℕ → ℕ → Option ℕ → Type 0
IsChildOf states of low None = HasNoChild states of low
IsChildOf states of low (Some c) = (0 < c) × (c < length states) × (parent states c ≡ of) × (byte states c ≡ low)

-- Where a byte leads without a failure: to the state's child for it. Without a child it leads from the start back to
-- it, and from other states nowhere.
abbrev pub IsToldBy : List State → ℕ → ℕ → Option ℕ → Type 0
IsToldBy states of low None = (of ≢ 0) × HasNoChild states of low
IsToldBy states of low (Some id) = IsChildOf states of low (Some id) ⊎ ((of ≡ 0) × (id ≡ 0) × HasNoChild states of low)

-- each failure that is set is shallower than its state
pub record AreShallower (states : List State) (fails : List (Option ℕ)) : Type 0 where
  pub counted : length fails ≡ length states
  pub shallower : (i f : ℕ) → slice_get fails i ≡ Some (Some f)
      → (f < length states) × (depth states f < depth states i)

-- the failures of all states shallower than `deep` are right
abbrev pub AreFailsAbove : Dictionary → List State → List (Option ℕ) → ℕ → Type 0
AreFailsAbove m states fails deep =
    (i : ℕ) (r : Option ℕ) → i < length states → depth states i < deep → slice_get fails i ≡ Some r
    → FailsTo m (text states i) (option_map (text states) r)

-- the state, if there is one, is no deeper than `most`
abbrev pub IsWithinDepth : List State → ℕ → Option ℕ → Type 0
IsWithinDepth states most r = (id : ℕ) → r ≡ Some id → (id < length states) × (depth states id ≤ most)

-- whether, under a leftmost kind, a pattern ends in the state or at the start
abbrev pub IsFinalIn : MatchKind → List State → ℕ → Bool → Type 0
IsFinalIn kind states i true = (kind ≢ Standard) × ((is_match states i ≡ true) ⊎ (is_match states 0 ≡ true))
IsFinalIn kind states i false = kind ≢ Standard → (is_match states i ≡ false) × (is_match states 0 ≡ false)

-- where one more byte leads from the text of a state
abbrev pub NextOf : Dictionary → List State → ℕ → ℕ → Option ℕ → Type 0
NextOf m states of low r = LeadsTo m false (text states of ++ low ∷ []) (option_map (text states) r)

-- Where one more byte leads from a state, for every dictionary whose trie this is. It is required that the start isn't
-- final, that the byte is canonical, and that the failures of all states no deeper are right.
abbrev pub IsNextByFails : Trie → List (Option ℕ) → ℕ → ℕ → Option ℕ → Type 0
IsNextByFails trie fails of low r =
    (m : Dictionary) → IsTrieOf m trie → (m.kind ≢ Standard → (n : ℕ) → ¬ IsOwn m [] n) → canonical m.pairing low ≡ low
    → AreFailsAbove m trie.states.items fails (depth trie.states.items of + 1) → NextOf m trie.states.items of low r

-- The state to which state i fails, for every dictionary whose trie this is, provided that the failures of all
-- shallower states are right.
abbrev pub IsFailureByFails : Trie → List (Option ℕ) → ℕ → Option ℕ → Type 0
IsFailureByFails trie fails i r =
    (m : Dictionary) → IsTrieOf m trie → AreFailsAbove m trie.states.items fails (depth trie.states.items i)
    → FailsTo m (text trie.states.items i) (option_map (text trie.states.items) r)
