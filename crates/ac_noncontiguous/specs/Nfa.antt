-- What the states of the automaton stand for, and what its tables store for them.
pub mod Lookups
pub mod PatternLens
pub mod ReadCalls
pub mod Reads
use Rattle.std.specs.Prelude.{◌≡◌, ◌≢◌, ◌↔◌, ◌⊎◌, ℕ, zero, suc, ◌+◌, ◌-◌, ◌<◌, ◌≤◌, map, false, List, [], ◌∷◌, ◌++◌, length, take, drop, slice_index, slice_index_or, Option, Some, None}
use Rattle.ac_automaton.specs.Named.{nowhere}
use Rattle.ac_input.specs.Alphabet.{class}
use Rattle.ac_input.specs.Candidate.{Filter}
use Rattle.ac_input.specs.Alphabet.Classes.{AreByteClasses}
use Rattle.ac_input.specs.Dictionary.{Dictionary, BeginsEntered}
use Rattle.ac_input.specs.Pairing.{IsPairing}
use Rattle.ac_input.specs.Failure.{IsList}
use Rattle.ac_input.specs.Number.{greatest_number}
use Rattle.ac_input.specs.Limits.{IsPrefix, HasStates, IsWithinLimits}
use Rattle.ac_input.specs.Laws.LiveLaws.{canonical}
use Rattle.ac_input.specs.States.{LeadsTo, FailsTo, BeginsBefore}
use Rattle.ac_noncontiguous.specs.declared.nfa.tables.State.{State}
use Rattle.ac_noncontiguous.specs.declared.nfa.tables.Transition.{Transition}
use Rattle.ac_noncontiguous.specs.declared.nfa.tables.Tables.{Tables}

-- ---- what is stored for a state, by its number

abbrev pub kept_of : List State → ℕ → State
kept_of states i =
    slice_index_or states i (record { transitions = 0; matches = 0; matches_len = 0; fail = 0; depth = 0; row = 0 })

-- where a state's row begins
abbrev pub row_of : List State → ℕ → ℕ
row_of states i = (kept_of states i).row

-- what is stored as the place of its row for a state that has none
abbrev pub no_row : ℕ
no_row = 4294967295

-- the value that is read past the last transition; the byte and the next state of transition k
abbrev pub no_transition : Transition
no_transition = record { byte = 0; next = 0 }

abbrev pub byte_at : List Transition → ℕ → ℕ
byte_at transitions k = (slice_index_or transitions k no_transition).byte

abbrev pub next_at : List Transition → ℕ → ℕ
next_at transitions k = (slice_index_or transitions k no_transition).next

-- the byte of a transition, and the state to which it leads
abbrev pub edge_of : Transition → ℕ × ℕ
edge_of transition = (transition.byte, transition.next)

-- ---- what states stand for

-- The state of the definitions for which a number stands. State 0 is the dead one. State 1 is the fail state: it stands
-- for no state, and no text leads there. Each other one stands for a text.
abbrev pub state_of : (ℕ → List ℕ) → ℕ → Option (List ℕ)
state_of text zero = None
state_of text (suc zero) = None
state_of text (suc (suc i)) = Some (text (suc (suc i)))

-- both states stand before the starts, or both after them
abbrev pub InOneRun : ℕ → ℕ → ℕ → Type 0
InOneRun start i j = ((1 < i) × (j < start)) ⊎ (start + 1 < i)

-- The texts for which the states stand, from state 2 on. Each begins an entered pattern, in canonical bytes. Each
-- occurs once, except the empty text, which belongs to the unanchored start and to the anchored start after it. Within
-- each run they come in order of length, and those of one length by the first pattern that begins with them.
pub record AreTexts (m : Dictionary) (len start : ℕ) (text : ℕ → List ℕ) : Type 0 where
  pub starts : (1 < start) × (start + 1 < len) × (text start ≡ []) × (text (start + 1) ≡ [])
  pub others : (i : ℕ) → 1 < i → i < len → text i ≡ [] → (i ≡ start) ⊎ (i ≡ start + 1)
  pub begin : (i : ℕ) → 1 < i → i < len → BeginsEntered m (text i) × (map (canonical m.pairing) (text i) ≡ text i)
  pub apart : (i j : ℕ) → 1 < i → i < j → j < len → text i ≡ text j → (i ≡ start) × (j ≡ start + 1)
  pub all : (t : List ℕ) → IsPrefix m t → (i : ℕ) × (1 < i) × (i < len) × (text i ≡ t)
  pub deeper : (i j : ℕ) → i < j → j < len → InOneRun start i j → length (text i) ≤ length (text j)
  pub by_first : (i j : ℕ) → i < j → j < len → InOneRun start i j → length (text i) ≡ length (text j)
      → BeginsBefore m (text i) (text j)

-- A byte leads from state i to state j without a failure: to the state that is one byte longer, or else nowhere. From
-- the unanchored start it leads to where the byte alone leads, and from the dead state to itself.
pub record IsEdge (m : Dictionary) (len start : ℕ) (text : ℕ → List ℕ) (i byte j : ℕ) : Type 0 where
  pub dead : i ≡ 0 → j ≡ 0
  pub child : 1 < i → BeginsEntered m (text i ++ byte ∷ [])
      → (1 < j) × (j < len) × (text j ≡ text i ++ canonical m.pairing byte ∷ [])
  pub none : 1 < i → i ≢ start → (¬ BeginsEntered m (text i ++ byte ∷ [])) → j ≡ nowhere
  pub back : i ≡ start → (¬ BeginsEntered m (text i ++ byte ∷ []))
      → ((j ≡ 0) ⊎ (j ≡ start)) × LeadsTo m false (text i ++ byte ∷ []) (state_of text j)

-- ---- the tables

-- a place among the transitions of a state
abbrev pub IsPlaceOf : List State → ℕ → ℕ → Type 0
IsPlaceOf states i k = ((kept_of states i).transitions ≤ k) × (k < (kept_of states (i + 1)).transitions)

-- The transitions of each state are a range, in rising order of byte. The dead state and both starts have one for each
-- byte, and the fail state has none. Every other state has those that lead to a state one byte longer.
pub record AreTransitions (m : Dictionary) (len start : ℕ) (text : ℕ → List ℕ) (states : List State)
    (transitions : List Transition) : Type 0 where
  pub ranges : (i : ℕ) → i < len → (kept_of states i).transitions ≤ (kept_of states (i + 1)).transitions
  pub last : (kept_of states len).transitions ≡ length transitions
  pub edges : (i k : ℕ) → i < len → IsPlaceOf states i k
      → (next_at transitions k < len) × IsEdge m len start text i (byte_at transitions k) (next_at transitions k)
  pub small : (i k : ℕ) → i < len → IsPlaceOf states i k → byte_at transitions k < 256
  pub rising : (i j k : ℕ) → i < len → IsPlaceOf states i j → IsPlaceOf states i k → j < k
      → byte_at transitions j < byte_at transitions k
  pub missing : (i byte : ℕ) → i < len → byte < 256 → ((k : ℕ) → IsPlaceOf states i k → byte_at transitions k ≢ byte)
      → IsEdge m len start text i byte 1
  pub all : (i : ℕ) → (i ≡ 0) ⊎ (i ≡ start) ⊎ (i ≡ start + 1)
      → (kept_of states (i + 1)).transitions ≡ (kept_of states i).transitions + 256
  pub none : (kept_of states 2).transitions ≡ (kept_of states 1).transitions
  pub longer : (i k : ℕ) → 1 < i → i < len → i ≢ start → i ≢ start + 1 → IsPlaceOf states i k
      → BeginsEntered m (text i ++ byte_at transitions k ∷ [])

-- What a row has for a byte: the state to which the byte leads in a search that isn't anchored, all failures followed.
-- From the dead state that is the dead one.
pub record IsRowEntry (m : Dictionary) (len start : ℕ) (text : ℕ → List ℕ) (i byte j : ℕ) : Type 0 where
  pub within : j < len
  pub stands : j ≢ nowhere
  pub unanchored : j ≢ start + 1
  pub dead : i ≡ 0 → j ≡ 0
  pub leads : 1 < i → LeadsTo m false (text i ++ byte ∷ []) (state_of text j)

-- The row of each state that has one holds, for each byte class, where its bytes lead.
abbrev pub AreRows : Dictionary → ℕ → ℕ → (ℕ → List ℕ) → List State → List ℕ → List ℕ → Type 0
AreRows m len start text states classes rows =
    (i byte : ℕ) → i < len → byte < 256 → row_of states i ≢ no_row
    → (row_of states i + class classes byte < length rows)
    × IsRowEntry m len start text i byte (slice_index rows (row_of states i + class classes byte))

-- A state has a row exactly if it is less deep than `below`; the fail state has none. Once the rows are full, with as
-- many entries as a row's place can say, the states that are left have none either.
pub record AreRowsBelow (below : ℕ) (tables : Tables) : Type 0 where
  pub only : (i : ℕ) → i + 1 < length tables.states.items → row_of tables.states.items i ≢ no_row
      → (i ≢ nowhere) × ((kept_of tables.states.items i).depth < below)
  pub all : (i : ℕ) → i + 1 < length tables.states.items → i ≢ nowhere → (kept_of tables.states.items i).depth < below
      → (row_of tables.states.items i ≢ no_row) ⊎ (no_row ≤ length tables.rows.items)

-- To which state each state fails, and its depth. No state fails to the fail state or to the anchored start.
pub record AreFailures (m : Dictionary) (len start : ℕ) (text : ℕ → List ℕ) (states : List State) : Type 0 where
  pub fails : (i : ℕ) → 1 < i → i < len → FailsTo m (text i) (state_of text (kept_of states i).fail)
  pub within : (i : ℕ) → i < len
      → ((kept_of states i).fail < len) × ((kept_of states i).fail ≢ nowhere) × ((kept_of states i).fail ≢ start + 1)
  pub none : ((kept_of states 0).fail ≡ 0) × ((kept_of states 1).fail ≡ 0)
  pub depths : (i : ℕ) → 1 < i → i < len → (kept_of states i).depth ≡ length (text i)
  pub flat : ((kept_of states 0).depth ≡ 0) × ((kept_of states 1).depth ≡ 0)

-- the patterns that match at a state
abbrev pub list_of : List State → List ℕ → ℕ → List ℕ
list_of states matches i = take (kept_of states i).matches_len (drop (kept_of states i).matches matches)

-- Which patterns match at each state. The states at which some match come first, and the starts after them; the starts
-- are among them if there is an empty pattern.
pub record AreLists (m : Dictionary) (len start max_match : ℕ) (text : ℕ → List ℕ) (states : List State)
    (matches : List ℕ) : Type 0 where
  pub ranges : (i : ℕ) → i < len → (kept_of states i).matches + (kept_of states i).matches_len ≤ length matches
  pub lists : (i : ℕ) → 1 < i → i < len → IsList m (text i) (list_of states matches i)
  pub none : ((kept_of states 0).matches_len ≡ 0) × ((kept_of states 1).matches_len ≡ 0)
  pub some : (i : ℕ) → 1 < i → i < len → (0 < (kept_of states i).matches_len) ↔ (i ≤ max_match)
  pub greatest : (max_match + 1 ≡ start) ⊎ (max_match ≡ start + 1)
  pub known : (k : ℕ) → k < length matches → slice_index matches k < length m.patterns

-- The tables are those of the automaton of a dictionary, whose states stand for these texts. One more entry stands
-- after the last state, for the end of its transitions.
pub record AreTables (m : Dictionary) (text : ℕ → List ℕ) (tables : Tables) : Type 0 where
  pub len : ℕ
  pub counted : length tables.states.items ≡ len + 1
  pub few : len ≤ greatest_number + 1
  pub has : HasStates m len
  pub texts : AreTexts m len tables.start text
  pub transitions : AreTransitions m len tables.start text tables.states.items tables.transitions.items
  pub rows : AreRows m len tables.start text tables.states.items tables.classes tables.rows.items
  pub failures : AreFailures m len tables.start text tables.states.items
  pub lists : AreLists m len tables.start tables.max_match text tables.states.items tables.matches.items

-- ---- what the automaton stores beside its tables

-- The prefilter, if there is one, is made for the automaton's dictionary.
abbrev pub IsHeldFor : Dictionary → Option Filter → Type 0
IsHeldFor m held = (f : Filter) → held ≡ Some f → f.dictionary ≡ m

-- The tables, the byte classes and the prefilter, if any, are those of the dictionary, which is within the limits and
-- has a valid pairing.
pub record AreParts (m : Dictionary) (tables : Tables) (prefilter : Option Filter) : Type 0 where
  pub within : ∥ IsWithinLimits m ∥₁
  pub stands : ∥ ((text : ℕ → List ℕ) × AreTables m text tables) ∥₁
  pub classed : ∥ AreByteClasses m tables.classes ∥₁
  pub held : IsHeldFor m prefilter
  pub paired : IsPairing m.pairing
