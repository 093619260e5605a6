-- How the transitions and the rows of the states are laid out.
use Rattle.std.specs.Prelude.{◌≡◌, ◌≢◌, ◌⊎◌, ◌↔◌, ℕ, ◌+◌, ◌<◌, ◌≤◌, ◌==◌, if◌then◌else◌, Bool, true, false, List, length, slice_index, slice_index_or, IsTrue}
use Rattle.ac_input.specs.Alphabet.{has, class, is_edge, AreClassesOf}
use Rattle.ac_input.specs.Alphabet.Classes.{IsAlone}
use Rattle.ac_input.specs.Same.{other, same}
use Rattle.ac_automaton.specs.Named.{nowhere}
use Rattle.ac_noncontiguous.specs.declared.nfa.tables.Transition.{Transition}
use Rattle.ac_noncontiguous.specs.declared.links.Links.{Links}
use Rattle.ac_noncontiguous.specs.declared.trie.Trie.{Trie}
use Rattle.ac_noncontiguous.specs.declared.compiler.numbering.Numbering.{Numbering}
use Rattle.ac_noncontiguous.specs.declared.compiler.rows.Rows.{Rows}
use Rattle.ac_noncontiguous.specs.Trie.Tree.{byte, depth}
use Rattle.ac_noncontiguous.specs.Nfa.{no_transition, no_row, byte_at, next_at}
use Rattle.ac_noncontiguous.specs.Compiler.Edges.{IsEdgeTo}
use Rattle.ac_noncontiguous.specs.Compiler.Assembly.{IsFailureOf}

-- the old transitions stay where they are
pub record Keeps (old new : List Transition) : Type 0 where
  pub longer : length old ≤ length new
  pub same : (k : ℕ) → k < length old → slice_index_or new k no_transition ≡ slice_index_or old k no_transition

-- Transitions for the bytes below `to` are appended, in rising order of byte: for all of them, or for those that lead
-- somewhere.
pub record AreAppended (edges : List ℕ) (all : Bool) (to : ℕ) (old new : List Transition) : Type 0 where
  pub keeps : Keeps old new
  pub reads : (k : ℕ) → length old ≤ k → k < length new
      → (byte_at new k < to) × (next_at new k ≡ slice_index edges (byte_at new k))
      × (all ≡ false → next_at new k ≢ nowhere)
  pub rising : (j k : ℕ) → length old ≤ j → j < k → k < length new → byte_at new j < byte_at new k
  pub missing : (b : ℕ) → b < to → ((k : ℕ) → length old ≤ k → k < length new → byte_at new k ≢ b)
      → slice_index edges b ≡ nowhere
  pub complete : all ≡ true → length new ≡ length old + to

-- the dead state and both starts have a transition for each byte
abbrev pub HasAll : ℕ → ℕ → Type 0
HasAll start i = (i ≡ 0) ⊎ (i ≡ start) ⊎ (i ≡ start + 1)

-- The transitions of state i are those from place `from` up to place `to`.
pub record IsLaid (trie : Trie) (numbering : Numbering) (back i from to : ℕ)
    (transitions : List Transition) : Type 0 where
  pub order : from ≤ to
  pub edges : (k : ℕ) → from ≤ k → k < to
      → IsEdgeTo trie numbering back i (byte_at transitions k) (next_at transitions k)
  pub small : (k : ℕ) → from ≤ k → k < to → byte_at transitions k < 256
  pub rising : (j k : ℕ) → from ≤ j → j < k → k < to → byte_at transitions j < byte_at transitions k
  pub missing : (b : ℕ) → b < 256 → ((k : ℕ) → from ≤ k → k < to → byte_at transitions k ≢ b)
      → IsEdgeTo trie numbering back i b nowhere
  pub all : HasAll numbering.start i → to ≡ from + 256
  pub none : i ≡ nowhere → to ≡ from
  pub longer : (¬ HasAll numbering.start i) → (k : ℕ) → from ≤ k → k < to → next_at transitions k ≢ nowhere

-- the transitions of one more state are appended
pub record IsAppended (trie : Trie) (numbering : Numbering) (back i : ℕ) (old new : List Transition) : Type 0 where
  pub keeps : Keeps old new
  pub laid : IsLaid trie numbering back i (length old) (length new) new

-- the transitions of the first n states, one state after another
pub record AreLaidOut (trie : Trie) (numbering : Numbering) (back states : ℕ) (offsets : List ℕ)
    (transitions : List Transition) : Type 0 where
  pub counted : length offsets ≡ states + 1
  pub last : slice_index offsets states ≡ length transitions
  pub within : (i : ℕ) → i ≤ states → slice_index offsets i ≤ length transitions
  pub laid : (i : ℕ) → i < states
      → IsLaid trie numbering back i (slice_index offsets i) (slice_index offsets (i + 1)) transitions

-- the byte of each state of a trie, and its partner, are classes of their own
abbrev pub AreAlone : Trie → List ℕ → Type 0
AreAlone trie classes =
    (c : ℕ) → 0 < c → c < length trie.states.items
    → IsAlone classes (byte trie.states.items c) × IsAlone classes (other trie.pairing (byte trie.states.items c))

-- A byte is a boundary exactly where it, or the next byte, is the byte of one of the first n states or its partner.
abbrev pub AreStateEdges : Trie → ℕ → List Bool → Type 0
AreStateEdges trie states boundaries =
    (b : ℕ) → IsTrue (has boundaries b)
    ↔ ((x : ℕ) × ((c : ℕ) × (0 < c) × (c < states) × IsTrue (same trie.pairing (byte trie.states.items c) x))
    × IsTrue (is_edge x x b))

-- the byte classes that a trie makes: the byte of each state, and its partner, is a class alone
abbrev pub AreClassesOfTrie : Trie → List ℕ → Type 0
AreClassesOfTrie trie classes =
    (boundaries : List Bool) × AreClassesOf boundaries classes
    × AreStateEdges trie (length trie.states.items) boundaries

-- two bytes of one class lead to one state
abbrev pub LeadAlike : List ℕ → List ℕ → Type 0
LeadAlike classes edges =
    (b c : ℕ) → b < 256 → c < 256 → class classes b ≡ class classes c → slice_index edges b ≡ slice_index edges c

-- the old entries stay where they are
pub record KeepsRows (old new : List ℕ) : Type 0 where
  pub longer : length old ≤ length new
  pub same : (k : ℕ) → k < length old → slice_index new k ≡ slice_index old k

-- a row is appended, with the next state for the class of each byte below `to`
pub record IsRowAppended (classes edges : List ℕ) (to : ℕ) (old new : List ℕ) : Type 0 where
  pub keeps : KeepsRows old new
  pub row : (b : ℕ) → b < to → (length old + class classes b < length new)
      × (slice_index new (length old + class classes b) ≡ slice_index edges b)

-- a next state, or another one where it is the fail state
abbrev pub or_failure : ℕ → ℕ → ℕ
or_failure next other = if next == nowhere then other else next

-- where each byte leads: by the edges or, where these lead nowhere, by the failure's row
abbrev pub AreWithFailures : List ℕ → List ℕ → List ℕ → ℕ → List ℕ → Type 0
AreWithFailures classes edges rows failure leads =
    (b : ℕ) → b < 256 → slice_index leads b
    ≡ or_failure (slice_index edges b) (slice_index rows (failure + class classes b))

-- Where a byte leads from a state, all failures followed: by an edge of the state itself or, if that leads nowhere,
-- from its failure.
pub data LeadsOver (trie : Trie) (numbering : Numbering) (links : Links) (back byte : ℕ) : ℕ → ℕ → Type 0 where
  ByItself : (i next : ℕ) → IsEdgeTo trie numbering back i byte next → next ≢ nowhere
      → LeadsOver trie numbering links back byte i next
  ByFailure : (i failure next : ℕ) → 1 < i → IsEdgeTo trie numbering back i byte nowhere
      → IsFailureOf numbering links (slice_index numbering.at.items i) failure
      → LeadsOver trie numbering links back byte failure next → LeadsOver trie numbering links back byte i next

-- Of this many states the dead one alone has a row, if states less deep than `below` have one: it leads from each byte
-- back to the dead state.
pub record AreOfDead (states below : ℕ) (classes : List ℕ) (it : Rows) : Type 0 where
  pub counted : length it.offsets.items ≡ states
  pub wanted : (slice_index it.offsets.items 0 ≢ no_row) ↔ (0 < below)
  pub none : (i : ℕ) → 0 < i → i < states → slice_index it.offsets.items i ≡ no_row
  pub dead : slice_index it.offsets.items 0 ≢ no_row → (b : ℕ) → b < 256
      → (slice_index it.offsets.items 0 + class classes b < length it.rows.items)
      × (slice_index it.rows.items (slice_index it.offsets.items 0 + class classes b) ≡ 0)

-- the row of state i begins at `row`, unless that says that it has none
abbrev pub IsRowAt : Trie → Numbering → Links → ℕ → List ℕ → ℕ → ℕ → List ℕ → Type 0
IsRowAt trie numbering links back classes i row rows =
    row ≢ no_row → (b : ℕ) → b < 256
    → (row + class classes b < length rows)
    × LeadsOver trie numbering links back b i (slice_index rows (row + class classes b))

-- The rows of the states that have one, by where each row begins. The fail state has none; the anchored start's isn't
-- checked here.
pub record HaveRows (trie : Trie) (numbering : Numbering) (links : Links) (back : ℕ)
    (classes offsets rows : List ℕ) : Type 0 where
  pub counted : length offsets ≡ length numbering.at.items
  pub fail : slice_index offsets nowhere ≡ no_row
  pub right : (i : ℕ) → i < length offsets → i ≢ numbering.start + 1
      → IsRowAt trie numbering links back classes i (slice_index offsets i) rows

-- the rows of all states; the anchored start shares the unanchored start's row
pub record AreRowsOf (trie : Trie) (numbering : Numbering) (links : Links) (back : ℕ)
    (classes offsets rows : List ℕ) : Type 0 where
  pub have : HaveRows trie numbering links back classes offsets rows
  pub shared : slice_index offsets (numbering.start + 1) ≡ slice_index offsets numbering.start

-- ---- which states have a row

-- state i has a row, or the rows are full: no row can begin at their end
abbrev pub IsRowedOrFull : Rows → ℕ → Type 0
IsRowedOrFull it i = (slice_index it.offsets.items i ≢ no_row) ⊎ (no_row ≤ length it.rows.items)

-- Where states less deep than `below` are to have a row, the dead state has one, and so has each state that is less
-- deep than trie state `id` too.
pub record AreRowedAbove (trie : Trie) (numbering : Numbering) (below id : ℕ) (it : Rows) : Type 0 where
  pub dead : 0 < below → slice_index it.offsets.items 0 ≢ no_row
  pub shallow : (f : ℕ) → f < length trie.states.items → depth trie.states.items f < depth trie.states.items id
      → depth trie.states.items f < below → IsRowedOrFull it (slice_index numbering.of.items f)

-- one more trie state got a row, if it is less deep than `below`; the others have those that they had
pub record AddsRow (trie : Trie) (numbering : Numbering) (below id : ℕ) (old new : Rows) : Type 0 where
  pub others : (i : ℕ) → i ≢ slice_index numbering.of.items id
      → slice_index new.offsets.items i ≡ slice_index old.offsets.items i
  pub longer : length old.rows.items ≤ length new.rows.items
  pub deep : below ≤ depth trie.states.items id
      → slice_index new.offsets.items (slice_index numbering.of.items id)
      ≡ slice_index old.offsets.items (slice_index numbering.of.items id)
  pub shallow : depth trie.states.items id < below → IsRowedOrFull new (slice_index numbering.of.items id)

-- Of the first `done` trie states of the order, those less deep than `below` have a row. No state as deep as `below`
-- has one.
pub record AreRowedUpTo (trie : Trie) (numbering : Numbering) (order : List ℕ) (below done : ℕ)
    (it : Rows) : Type 0 where
  pub dead : (slice_index it.offsets.items 0 ≢ no_row) ↔ (0 < below)
  pub deep : (i : ℕ) → 1 < i → i < length numbering.at.items
      → below ≤ depth trie.states.items (slice_index numbering.at.items i) → slice_index it.offsets.items i ≡ no_row
  pub shallow : (k : ℕ) → k < done → depth trie.states.items (slice_index order k) < below
      → IsRowedOrFull it (slice_index numbering.of.items (slice_index order k))
