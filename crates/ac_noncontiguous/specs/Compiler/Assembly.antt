-- How the tables are assembled from the numbering, the links and the layout.
use Rattle.std.specs.Prelude.{◌≡◌, ◌≢◌, ◌⊎◌, ℕ, ◌+◌, ◌<◌, List, length, slice_index, slice_index_or, slice_get, Option, Some, None}
use Rattle.ac_input.specs.declared.search.MatchKind.{MatchKind}
use Rattle.ac_input.specs.declared.search.MatchKind.TheVariants.{Standard}
use Rattle.ac_input.specs.Alphabet.Classes.{AreByteClasses}
use Rattle.ac_input.specs.Dictionary.{Dictionary}
use Rattle.ac_noncontiguous.specs.declared.links.Links.{Links}
use Rattle.ac_noncontiguous.specs.declared.links.Range.{Range}
use Rattle.ac_noncontiguous.specs.declared.trie.Trie.{Trie}
use Rattle.ac_noncontiguous.specs.declared.links.own.OwnPatterns.{OwnPatterns}
use Rattle.ac_noncontiguous.specs.declared.compiler.numbering.Numbering.{Numbering}
use Rattle.ac_noncontiguous.specs.declared.compiler.outlines.Outline.{Outline}
use Rattle.ac_noncontiguous.specs.declared.nfa.tables.State.{State}
use Rattle.ac_noncontiguous.specs.declared.nfa.tables.Tables.{Tables}
use Rattle.ac_noncontiguous.specs.Trie.Tree.{depth}
use Rattle.ac_noncontiguous.specs.Trie.Kept.{IsTrieOf}
use Rattle.ac_noncontiguous.specs.Links.{no_range, AreFails, AreLinks}
use Rattle.ac_noncontiguous.specs.Nfa.{kept_of, AreTables}
use Rattle.ac_noncontiguous.specs.Compiler.Numbering.{range_len}
use Rattle.ac_noncontiguous.specs.Links.Own.{AreOwnChains}

-- the number of a trie state, or that of the dead one
abbrev pub number_or_dead : List ℕ → Option ℕ → ℕ
number_or_dead numbers None = 0
number_or_dead numbers (Some i) = slice_index numbers i

-- the number of the state to which trie state i fails, or of the dead one
abbrev pub IsFailureOf : Numbering → Links → ℕ → ℕ → Type 0
IsFailureOf numbering links i fail =
    (to : Option ℕ) × (slice_get links.fails.items i ≡ Some to) × (fail ≡ number_or_dead numbering.of.items to)

-- the outline of state i
abbrev pub outline_of : List Outline → ℕ → Outline
outline_of outlines i = slice_index_or outlines i (record { fail = 0; depth = 0 })

-- this is the outline of state i: where the state fails, and its depth
pub record IsOutlineOf (trie : Trie) (numbering : Numbering) (links : Links) (i : ℕ) (it : Outline) : Type 0 where
  pub flat : i < 2 → (it.fail ≡ 0) × (it.depth ≡ 0)
  pub deep : 1 < i → it.depth ≡ depth trie.states.items (slice_index numbering.at.items i)
  pub fails : 1 < i → IsFailureOf numbering links (slice_index numbering.at.items i) it.fail

-- the outlines of the first `to` states
pub record AreOutlines (trie : Trie) (numbering : Numbering) (links : Links) (to : ℕ)
    (outlines : List Outline) : Type 0 where
  pub counted : length outlines ≡ to
  pub right : (i : ℕ) → i < to → IsOutlineOf trie numbering links i (outline_of outlines i)

-- the range of the trie state for which state i stands
abbrev pub range_of : List ℕ → List Range → ℕ → Range
range_of at ranges i = slice_index_or ranges (slice_index at i) no_range

-- what is stored for state i, whose transitions begin at `from` and whose row begins at `row`
pub record IsKeptOf (outlines : List Outline) (at : List ℕ) (ranges : List Range) (i from row : ℕ)
    (state : State) : Type 0 where
  pub places : (state.transitions ≡ from) × (state.row ≡ row)
  pub outline : (state.fail ≡ (outline_of outlines i).fail) × (state.depth ≡ (outline_of outlines i).depth)
  pub flat : i < 2 → (state.matches ≡ 0) × (state.matches_len ≡ 0)
  pub matches : 1 < i → (state.matches ≡ (range_of at ranges i).from) × (state.matches_len ≡ (range_of at ranges i).len)

-- what is stored for all states, and in one more entry where the transitions end
pub record AreKept (outlines : List Outline) (at : List ℕ) (ranges : List Range) (transitions rows : List ℕ)
    (states : List State) : Type 0 where
  pub counted : length states ≡ length at + 1
  pub kept : (i : ℕ) → i < length at
      → IsKeptOf outlines at ranges i (slice_index transitions i) (slice_index rows i) (kept_of states i)
  pub last : (kept_of states (length at)).transitions ≡ slice_index transitions (length at)

-- Where a byte that begins no pattern leads from the unanchored start. Under a leftmost kind with an empty pattern,
-- which has matched, it leads to the dead state; otherwise back to the start.
abbrev pub IsBack : MatchKind → List Range → ℕ → ℕ → Type 0
IsBack kind ranges start back =
    ((kind ≢ Standard) × (0 < range_len ranges 0) × (back ≡ 0))
    ⊎ ((kind ≢ Standard → range_len ranges 0 ≡ 0) × (back ≡ start))

-- For every dictionary whose trie and links these are, the tables are those of its automaton.
abbrev pub AreTablesFor : Trie → Links → Tables → Type 0
AreTablesFor trie links tables =
    (m : Dictionary) → IsTrieOf m trie → AreLinks m trie.states.items links
    → (text : ℕ → List ℕ) × AreTables m text tables

-- For every dictionary whose trie this is, the classes of the tables are its byte classes.
abbrev pub AreClassedFor : Trie → Tables → Type 0
AreClassedFor trie tables = (m : Dictionary) → IsTrieOf m trie → AreByteClasses m tables.classes

-- for each state of the trie, the chain of the patterns that end in it
abbrev pub AreOwnOf : Trie → OwnPatterns → Type 0
AreOwnOf trie own = AreOwnChains (length trie.states.items) trie.ends.items 0 own.first.items own.next.items

-- These are the failures, or the links, for every dictionary whose trie this is.
abbrev pub AreFailsFor : Trie → List (Option ℕ) → Type 0
AreFailsFor trie fails = (m : Dictionary) → IsTrieOf m trie → AreFails m trie.states.items fails

abbrev pub AreLinksFor : Trie → Links → Type 0
AreLinksFor trie links = (m : Dictionary) → IsTrieOf m trie → AreLinks m trie.states.items links
