-- What a trie keeps as it grows, and for which dictionary it stands.
use Rattle.std.specs.Prelude.{◌≡◌, ℕ, ◌<◌, List, [], ◌∷◌, ◌++◌, length, Option}
use Rattle.ac_input.specs.Dictionary.{Dictionary}
use Rattle.ac_input.specs.Limits.{with_pattern}
use Rattle.ac_input.specs.States.{BeginsBefore}
use Rattle.ac_noncontiguous.specs.declared.error.BuildErrorKind.{BuildErrorKind}
use Rattle.ac_noncontiguous.specs.declared.trie.Trie.{Trie}
use Rattle.ac_noncontiguous.specs.Trie.Tree.{depth, text}
use Rattle.ac_noncontiguous.specs.Standing.{HasEntered, IsPatternRefused}

-- the settings, and where the patterns end, are unchanged
pub record KeepsSettings (old new : Trie) : Type 0 where
  pub pairing : new.pairing ≡ old.pairing
  pub kind : new.kind ≡ old.kind
  pub ends : new.ends ≡ old.ends

-- where one more pattern ends was recorded, and nothing else changed
pub record IsNoted (old new : Trie) (end : Option ℕ) : Type 0 where
  pub pairing : new.pairing ≡ old.pairing
  pub kind : new.kind ≡ old.kind
  pub states : new.states ≡ old.states
  pub ends : new.ends.items ≡ old.ends.items ++ end ∷ []

-- the trie of a dictionary's patterns, with its pairing and its kind
pub record IsTrieOf (m : Dictionary) (trie : Trie) : Type 0 where
  pub pairing : m.pairing ≡ trie.pairing
  pub kind : m.kind ≡ trie.kind
  pub stands : HasEntered m trie.states.items trie.ends.items
  pub by_first : (i j : ℕ) → i < j → j < length trie.states.items
      → depth trie.states.items i ≡ depth trie.states.items j
      → BeginsBefore m (text trie.states.items i) (text trie.states.items j)

-- For every dictionary whose trie is the old one: with one more pattern its trie is the new one, or that pattern is
-- refused.
abbrev pub TakesPattern : Trie → List ℕ → Trie → Type 0
TakesPattern old p new = (m : Dictionary) → IsTrieOf m old → IsTrieOf (with_pattern m p) new

abbrev pub RefusesPattern : Trie → List ℕ → BuildErrorKind → Type 0
RefusesPattern old p kind = (m : Dictionary) → IsTrieOf m old → IsPatternRefused m p kind
