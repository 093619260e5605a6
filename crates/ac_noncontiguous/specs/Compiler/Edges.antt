-- Where each byte leads from a state of the automaton, given the trie state for which it stands.
use Rattle.std.specs.Prelude.{◌≡◌, ◌⊎◌, ℕ, ◌<◌, ◌==◌, if◌then◌else◌, List, length, slice_index}
use Rattle.ac_input.specs.Laws.LiveLaws.{canonical}
use Rattle.ac_automaton.specs.Named.{nowhere}
use Rattle.ac_noncontiguous.specs.declared.trie.State.{State}
use Rattle.ac_noncontiguous.specs.declared.trie.Trie.{Trie}
use Rattle.ac_noncontiguous.specs.declared.compiler.numbering.Numbering.{Numbering}
use Rattle.ac_noncontiguous.specs.Trie.Tree.{parent, byte}
use Rattle.ac_noncontiguous.specs.Trie.Entering.{HasNoChild}

-- the child of a trie state for a byte
abbrev pub IsChildFor : List State → ℕ → ℕ → ℕ → Type 0
IsChildFor states of low c = (0 < c) × (c < length states) × (parent states c ≡ of) × (byte states c ≡ low)

-- For each byte, the number of the trie state's child for it, or `other` where it has no child for the byte.
pub record AreTargets (states : List State) (numbers : List ℕ) (of other : ℕ) (targets : List ℕ) : Type 0 where
  pub child : (c : ℕ) → 0 < c → c < length states → parent states c ≡ of
      → slice_index targets (byte states c) ≡ slice_index numbers c
  pub none : (b : ℕ) → b < 256 → HasNoChild states of b → slice_index targets b ≡ other
  pub cases : (b : ℕ) → b < 256
      → (slice_index targets b ≡ other)
      ⊎ ((c : ℕ) × IsChildFor states of b c × (slice_index targets b ≡ slice_index numbers c))

-- where state i leads for a byte for which it has no child: the unanchored start to `back`, every other state nowhere
abbrev pub missing : ℕ → ℕ → ℕ → ℕ
missing start back i = if i == start then back else nowhere

-- A byte leads from state i to `next`: the child of its trie state for the byte, where there is one. The dead state
-- leads to itself.
pub record IsEdgeTo (trie : Trie) (numbering : Numbering) (back i b next : ℕ) : Type 0 where
  pub within : next < length numbering.at.items
  pub dead : i ≡ 0 → next ≡ 0
  pub child : 1 < i → (c : ℕ) → IsChildFor trie.states.items (slice_index numbering.at.items i)
      (canonical trie.pairing b) c → next ≡ slice_index numbering.of.items c
  pub none : 1 < i → HasNoChild trie.states.items (slice_index numbering.at.items i) (canonical trie.pairing b)
      → next ≡ missing numbering.start back i
  pub cases : 1 < i → (next ≡ missing numbering.start back i)
      ⊎ ((c : ℕ) × IsChildFor trie.states.items (slice_index numbering.at.items i) (canonical trie.pairing b) c)
