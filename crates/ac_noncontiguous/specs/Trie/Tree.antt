-- The states of a trie, and the links between them.
use Rattle.std.specs.Prelude.{◌≡◌, ℕ, zero, suc, ◌+◌, ◌<◌, ◌≤◌, Bool, false, List, [], ◌∷◌, ◌++◌, length, slice_index_or}
use Rattle.ac_noncontiguous.specs.declared.trie.State.{State}

-- the value that is read past the last state
abbrev pub no_state : State
no_state = record { parent = 0; child = 0; sibling = 0; depth = 0; byte = 0; is_match = false }

abbrev pub state_at : List State → ℕ → State
state_at states i = slice_index_or states i no_state

-- a state's parent, the byte that leads to it, its first child, its next sibling, its depth, and whether a pattern ends
-- in it
abbrev pub parent : List State → ℕ → ℕ
parent states i = (state_at states i).parent

abbrev pub byte : List State → ℕ → ℕ
byte states i = (state_at states i).byte

abbrev pub child : List State → ℕ → ℕ
child states i = (state_at states i).child

abbrev pub sibling : List State → ℕ → ℕ
sibling states i = (state_at states i).sibling

abbrev pub depth : List State → ℕ → ℕ
depth states i = (state_at states i).depth

abbrev pub is_match : List State → ℕ → Bool
is_match states i = (state_at states i).is_match

-- Among the first `len` states, the child of a state with the least byte that is at least `low`; 0 where there is none.
pub record IsFirstChild (len : ℕ) (parent byte : ℕ → ℕ) (of low first : ℕ) : Type 0 where
  pub is_child : 0 < first → (first < len) × (parent first ≡ of) × (low ≤ byte first)
  pub before_all : (c : ℕ) → 0 < c → c < len → parent c ≡ of → low ≤ byte c → (0 < first) × (byte first ≤ byte c)

-- The states of a trie, column by column. State 0 is the start; every other state is the child of an earlier one. A
-- state links to its first child, and each child to its next sibling, in rising order of byte. No two siblings have the
-- same byte.
pub record HasLinks (len : ℕ) (parent byte child sibling depth : ℕ → ℕ) : Type 0 where
  pub start : (0 < len) × (depth 0 ≡ 0)
  pub parents : (c : ℕ) → 0 < c → c < len → (parent c < c) × (depth c ≡ depth (parent c) + 1)
  pub children : (i : ℕ) → i < len → IsFirstChild len parent byte i 0 (child i)
  pub siblings : (c : ℕ) → 0 < c → c < len → IsFirstChild len parent byte (parent c) (byte c + 1) (sibling c)
  pub apart : (c d : ℕ) → 0 < c → 0 < d → c < len → d < len → parent c ≡ parent d → byte c ≡ byte d → c ≡ d

-- the states of a trie
abbrev pub IsTree : List State → Type 0
IsTree states = HasLinks (length states) (parent states) (byte states) (child states) (sibling states) (depth states)

-- a child of the state for a lesser byte
abbrev pub IsChildBelow : List State → ℕ → ℕ → ℕ → Type 0
IsChildBelow states of low c = (0 < c) × (c < length states) × (parent states c ≡ of) × (byte states c < low)

-- A walk along the children of a state has come to `at`, past only children with lesser bytes. The child before it is
-- `before`, 0
-- if `at` is the first child. Past the last child `at` is 0.
pub record IsSiblingWalk (states : List State) (of low before at : ℕ) : Type 0 where
  pub first : before ≡ 0 → at ≡ child states of
  pub next : 0 < before → (before < length states) × (parent states before ≡ of) × (byte states before < low)
      × (at ≡ sibling states before)

-- The walk has come to the child for a byte or, without one, to its place: before the first child with a greater byte.
pub record IsChildPlace (states : List State) (of low before at : ℕ) : Type 0 where
  pub way : IsSiblingWalk states of low before at
  pub reached : 0 < at → low ≤ byte states at

-- Each old state is still there and stands for its old text; only links to children may have changed.
pub record Extends (old new : List State) : Type 0 where
  pub longer : length old ≤ length new
  pub same : (i : ℕ) → i < length old
      → (parent new i ≡ parent old i) × (byte new i ≡ byte old i) × (depth new i ≡ depth old i)
      × (is_match new i ≡ is_match old i)

-- one more state, the child of a state for a byte
pub record IsAdded (old new : List State) (of low id : ℕ) : Type 0 where
  pub extends : Extends old new
  pub last : (id ≡ length old) × (length new ≡ length old + 1)
  pub added : (parent new id ≡ of) × (byte new id ≡ low) × (depth new id ≡ depth old of + 1) × (is_match new id ≡ false)

-- the bytes that lead to a state from the one n levels further up
abbrev pub path : List State → ℕ → ℕ → List ℕ
path states zero i = []
path states (suc up) i = path states up (parent states i) ++ byte states i ∷ []

-- the text that a state stands for: the bytes that lead to it from the start
abbrev pub text : List State → ℕ → List ℕ
text states i = path states (depth states i) i
