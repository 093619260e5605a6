-- The transitions of a state to its children: to one at most, or to all of them where no byte has a partner.
use Rattle.std.specs.Prelude.{◌≡◌, ℕ, ◌<◌, ◌≤◌, ◌==◌, if◌then◌else◌, List, [], ◌∷◌, ◌++◌, length, slice_index}
use Rattle.ac_input.specs.Same.{other}
use Rattle.ac_input.specs.Laws.LiveLaws.{canonical}
use Rattle.ac_noncontiguous.specs.declared.nfa.tables.Transition.{Transition}
use Rattle.ac_noncontiguous.specs.declared.trie.Trie.{Trie}
use Rattle.ac_noncontiguous.specs.declared.compiler.numbering.Numbering.{Numbering}
use Rattle.ac_noncontiguous.specs.Trie.Tree.{byte, child, parent, sibling}
use Rattle.ac_noncontiguous.specs.Nfa.{byte_at, next_at}
use Rattle.ac_noncontiguous.specs.Compiler.Edges.{IsChildFor}

-- the byte of a trie state's first child
abbrev pub first_byte : Trie → ℕ → ℕ
first_byte trie of = byte trie.states.items (child trie.states.items of)

-- the trie state has at most one child, whose byte is canonical
abbrev pub HasOneAtMost : Trie → ℕ → Type 0
HasOneAtMost trie of =
    0 < child trie.states.items of
    → (sibling trie.states.items (child trie.states.items of) ≡ 0)
    × (canonical trie.pairing (first_byte trie of) ≡ first_byte trie of)

-- the transitions for a byte and its partner
abbrev pub for_both : ℕ → ℕ → ℕ → List Transition
for_both low partner next =
    if partner == low then record { byte = low; next = next } ∷ []
    else record { byte = low; next = next } ∷ (record { byte = partner; next = next } ∷ [])

-- the transitions to the only child of a trie state, if it has one
abbrev pub to_only : Trie → Numbering → ℕ → List Transition
to_only trie numbering of =
    if child trie.states.items of == 0 then []
    else for_both (first_byte trie of) (other trie.pairing (first_byte trie of))
    (slice_index numbering.of.items (child trie.states.items of))

-- the transitions to the only child are appended; its byte, if there is a child, is less than 256
abbrev pub AppendsOnly : Trie → Numbering → ℕ → List Transition → List Transition → Type 0
AppendsOnly trie numbering of old new =
    (new ≡ old ++ to_only trie numbering of) × (0 < child trie.states.items of → first_byte trie of < 256)

-- These are transitions to the children of a trie state for the bytes below `to`, in rising order of byte.
pub record AreToChildren (trie : Trie) (numbering : Numbering) (of to : ℕ) (added : List Transition) : Type 0 where
  pub each : (k : ℕ) → k < length added
      → (c : ℕ) × IsChildFor trie.states.items of (byte_at added k) c
      × (next_at added k ≡ slice_index numbering.of.items c)
  pub below : (k : ℕ) → k < length added → byte_at added k < to
  pub small : to ≤ 256
  pub rising : (j k : ℕ) → j < k → k < length added → byte_at added j < byte_at added k
  pub all : (c : ℕ) → 0 < c → c < length trie.states.items → parent trie.states.items c ≡ of
      → byte trie.states.items c < to → (k : ℕ) × (k < length added) × (byte_at added k ≡ byte trie.states.items c)

-- a trie state has no child for a byte from `to` on
abbrev pub HasNoneFrom : Trie → ℕ → ℕ → Type 0
HasNoneFrom trie of to =
    (c : ℕ) → 0 < c → c < length trie.states.items → parent trie.states.items c ≡ of → byte trie.states.items c < to

-- the transitions to all children of a trie state are appended
abbrev pub AppendsChildrenOf : Trie → Numbering → ℕ → List Transition → List Transition → Type 0
AppendsChildrenOf trie numbering of old new =
    (added : List Transition) × (to : ℕ) × (new ≡ old ++ added) × AreToChildren trie numbering of to added
    × HasNoneFrom trie of to
