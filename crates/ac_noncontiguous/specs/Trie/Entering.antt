-- How a pattern is entered, in canonical bytes: byte by byte, from the start.
use Rattle.std.specs.Prelude.{◌≡◌, ◌≢◌, ℕ, ◌+◌, ◌<◌, ◌≤◌, ◌⊎◌, true, false, List, length, take, slice_index, Option, Some, None}
use Rattle.ac_input.specs.declared.search.MatchKind.{MatchKind}
use Rattle.ac_input.specs.declared.search.MatchKind.TheVariants.{LeftmostFirst}
use Rattle.ac_input.specs.Number.{greatest_number}
use Rattle.ac_noncontiguous.specs.declared.trie.State.{State}
use Rattle.ac_noncontiguous.specs.declared.error.BuildErrorKind.{BuildErrorKind}
use Rattle.ac_noncontiguous.specs.declared.error.BuildErrorKind.TheVariants.{StateIDOverflow, Memory}
use Rattle.ac_noncontiguous.specs.Trie.Tree.{IsTree, Extends, parent, byte, depth, text, is_match}

-- no child of the state has the byte
abbrev pub HasNoChild : List State → ℕ → ℕ → Type 0
HasNoChild states of low = (c : ℕ) → 0 < c → c < length states → parent states c ≡ of → byte states c ≢ low

-- one step down, to a child that is there or is added
pub record IsChildStep (old new : List State) (of low id : ℕ) : Type 0 where
  pub extends : Extends old new
  pub child : (0 < id) × (id < length new) × (parent new id ≡ of) × (byte new id ≡ low)
  pub added : (length new ≡ length old)
      ⊎ ((id ≡ length old) × (length new ≡ length old + 1) × (is_match new id ≡ false))

-- why a child can't be added: there is no number for it, or no memory
abbrev pub IsChildRefused : List State → ℕ → ℕ → BuildErrorKind → Type 0
IsChildRefused states of low (StateIDOverflow max requested) =
    (max ≡ greatest_number) × (max < requested) × (greatest_number + 1 < length states + 4) × HasNoChild states of low
IsChildRefused states of low Memory = Unit {0}
IsChildRefused states of low other = ⊥

-- The first `read` bytes of a pattern were entered, up to state `at`. Each added state stands for a prefix of them, and
-- no pattern ends in it. Under leftmost-first no pattern ends in a state before `at` on the way.
pub record IsWalked (kind : MatchKind) (old states : List State) (bytes : List ℕ) (read at : ℕ) : Type 0 where
  pub extends : Extends old states
  pub reached : (at < length states) × (depth states at ≡ read) × (text states at ≡ take read bytes)
  pub added : (i : ℕ) → length old ≤ i → i < length states
      → (depth states i ≤ read) × (text states i ≡ take (depth states i) bytes) × (is_match states i ≡ false)
  pub deeper : length old < length states → length old ≤ at
  pub unmatched : kind ≡ LeftmostFirst → (i : ℕ) → i < length states → depth states i < read
      → text states i ≡ take (depth states i) bytes → is_match states i ≡ false

-- Where a pattern ends: in the state to which its last byte leads, or nowhere, since another pattern ends in a state on
-- the way.
abbrev pub IsEnd : MatchKind → List State → List State → List ℕ → Option ℕ → Type 0
IsEnd kind old new bytes (Some id) = IsWalked kind old new bytes (length bytes) id
IsEnd kind old new bytes None =
    (kind ≡ LeftmostFirst)
    × ((read at : ℕ) × (read < length bytes) × (is_match new at ≡ true) × IsWalked kind old new bytes read at)

-- why a pattern can't be entered: some child can't be added on the way
abbrev pub IsStuck : MatchKind → List State → List ℕ → BuildErrorKind → Type 0
IsStuck kind old bytes error =
    (states : List State) × (read at : ℕ) × IsTree states × (read < length bytes)
    × IsWalked kind old states bytes read at × (kind ≡ LeftmostFirst → is_match states at ≡ false)
    × IsChildRefused states at (slice_index bytes read) error

-- one state is made a match state, and all texts stay as they are
pub record IsMarked (old new : List State) (id : ℕ) : Type 0 where
  pub len : length new ≡ length old
  pub same : (i : ℕ) → (parent new i ≡ parent old i) × (byte new i ≡ byte old i) × (depth new i ≡ depth old i)
  pub marked : is_match new id ≡ true
  pub others : (i : ℕ) → i ≢ id → is_match new i ≡ is_match old i
