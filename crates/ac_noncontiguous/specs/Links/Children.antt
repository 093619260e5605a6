-- The children of all states of a trie, one state after another.
use Rattle.std.specs.Prelude.{◌≡◌, ℕ, ◌+◌, ◌<◌, ◌≤◌, ◌++◌, map, List, length, slice_index}
use Rattle.std.specs.List.{Contains}
use Rattle.ac_noncontiguous.specs.declared.trie.State.{State}
use Rattle.ac_noncontiguous.specs.declared.links.children.Children.{Children}
use Rattle.ac_noncontiguous.specs.Trie.Tree.{parent, byte}

-- the children of a state
pub record AreChildren (states : List State) (of : ℕ) (found : List ℕ) : Type 0 where
  pub all : (c : ℕ) → 0 < c → c < length states → parent states c ≡ of → Contains found c
  pub only : (c : ℕ) → Contains found c → (0 < c) × (c < length states) × (parent states c ≡ of)

-- the children of a state are appended to a list
abbrev pub AppendsChildren : List State → ℕ → List ℕ → List ℕ → Type 0
AppendsChildren states of old new = (found : List ℕ) × AreChildren states of found × (new ≡ old ++ found)

-- The children of the first `most` states: where each state's children begin, which states they are, and their bytes.
pub record AreAllChildren (states : List State) (most : ℕ) (firsts ids bytes : List ℕ) : Type 0 where
  pub counted : length firsts ≡ most + 1
  pub last : slice_index firsts most ≡ length ids
  pub bytes_are : bytes ≡ map (byte states) ids
  pub spans : (i : ℕ) → i < most
      → (slice_index firsts i ≤ slice_index firsts (i + 1)) × (slice_index firsts (i + 1) ≤ length ids)
  pub only : (i k : ℕ) → i < most → slice_index firsts i ≤ k → k < slice_index firsts (i + 1)
      → (0 < slice_index ids k) × (slice_index ids k < length states) × (parent states (slice_index ids k) ≡ i)
  pub all : (c : ℕ) → 0 < c → c < length states → parent states c < most
      → (k : ℕ) × (slice_index firsts (parent states c) ≤ k) × (k < slice_index firsts (parent states c + 1))
      × (slice_index ids k ≡ c)

-- the children of all states
abbrev pub AreChildrenOfAll : List State → Children → Type 0
AreChildrenOfAll states it = AreAllChildren states (length states) it.firsts.items it.ids.items it.bytes.items
