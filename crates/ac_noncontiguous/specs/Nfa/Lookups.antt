-- The results of the look-ups in the tables of an automaton.
use Rattle.std.specs.Prelude.{◌≡◌, ◌≢◌, ◌⊎◌, ℕ, ◌+◌, ◌<◌, ◌≤◌, ◌==◌, ◌&&◌, if◌then◌else◌, nat_lt, not, Bool, true, false, List}
use Rattle.ac_input.specs.declared.steps.Steps.{Steps}
use Rattle.ac_input.specs.Dictionary.{Dictionary}
use Rattle.ac_automaton.specs.Named.{nowhere, Naming, OfNames, IsPaidStep}
use Rattle.ac_noncontiguous.specs.declared.nfa.tables.Transition.{Transition}
use Rattle.ac_noncontiguous.specs.declared.nfa.tables.Tables.{Tables}
use Rattle.ac_noncontiguous.specs.Nfa.{state_of, byte_at, next_at, IsEdge, IsRowEntry, AreTables, kept_of}

-- ---- one state

-- i is a state of the tables, which are those of some dictionary
abbrev pub IsKept : Tables → ℕ → Type 0
IsKept tables i = ∥ ((m : Dictionary) × (text : ℕ → List ℕ) × (t : AreTables m text tables) × (i < t.len)) ∥₁

-- for every dictionary of the tables: a byte leads from state i to state j without a failure
abbrev pub StepsTo : Tables → ℕ → ℕ → ℕ → Type 0
StepsTo tables i byte j =
    (m : Dictionary) (text : ℕ → List ℕ) (t : AreTables m text tables) → i < t.len
    → (j < t.len) × IsEdge m t.len tables.start text i byte j

-- for every dictionary of the tables: a byte leads from state i to state j in an unanchored search, all failures
-- followed
abbrev pub StepsOver : Tables → ℕ → ℕ → ℕ → Type 0
StepsOver tables i byte j =
    (m : Dictionary) (text : ℕ → List ℕ) (t : AreTables m text tables) → i < t.len
    → IsRowEntry m t.len tables.start text i byte j

-- the bytes of the transitions between two places rise
abbrev pub AreRisingIn : List Transition → ℕ → ℕ → Type 0
AreRisingIn transitions from end =
    (j k : ℕ) → from ≤ j → j < k → k < end → byte_at transitions j < byte_at transitions k

-- the next state of the transition between two places that has the byte; the fail state where none has it
abbrev pub IsNextIn : List Transition → ℕ → ℕ → ℕ → ℕ → Type 0
IsNextIn transitions from end byte j =
    ((k : ℕ) × (from ≤ k) × (k < end) × (byte_at transitions k ≡ byte) × (j ≡ next_at transitions k))
    ⊎ ((j ≡ nowhere) × ((k : ℕ) → from ≤ k → k < end → byte_at transitions k ≢ byte))

-- ---- a look-up

-- the start from which searches of the other anchoring begin
abbrev pub other_start : ℕ → Bool → ℕ
other_start start true = start
other_start start false = start + 1

-- The states stand for these texts, and their numbers for the states. No search reaches the fail state, or the start of
-- the other anchoring.
abbrev pub naming_of : (ℕ → List ℕ) → ℕ → ℕ → Naming
naming_of text len start = record {
  text = state_of text;
  met = λ anchored i. nat_lt i len && (not (i == nowhere) && not (i == other_start start anchored));
}

-- the tables are those of the dictionary, and this is the naming of their states
abbrev pub IsNamingOf : Dictionary → Tables → Naming → Type 0
IsNamingOf m tables names =
    (text : ℕ → List ℕ) × (t : AreTables m text tables) × (names ≡ naming_of text t.len tables.start)

-- a state that a search of this anchoring may reach
abbrev pub IsVisited : Tables → Bool → ℕ → Type 0
IsVisited tables anchored i = IsKept tables i × (i ≢ nowhere) × (i ≢ other_start tables.start anchored)

-- The state after i in an anchored search, where j is the state to which the byte leads with all failures followed. If
-- j is deeper than i, it is i's own child; otherwise the next state is the dead one.
abbrev pub own_next : Tables → ℕ → ℕ → ℕ
own_next tables i j =
    if nat_lt (kept_of tables.states.items i).depth (kept_of tables.states.items j).depth then j else 0

-- For every dictionary of the tables, a byte leads from state i to state j in a search. This is the cost of the
-- look-up, after
-- `done` looks for the byte.
abbrev pub LeadsNext : Tables → Bool → ℕ → ℕ → ℕ → ℕ → Steps → Steps → Type 0
LeadsNext tables anchored done i byte j before after =
    (m : Dictionary) → OfNames (IsNamingOf m tables) anchored i
    (λ names. IsPaidStep m names anchored done i byte j before after)

-- The byte leads from the unanchored start back to it, and no pattern matches there.
pub record IsIdle (tables : Tables) (byte : ℕ) : Type 0 where
  pub plain : tables.max_match < tables.start
  pub leads : StepsTo tables tables.start byte tables.start

-- ---- copies

-- the new tables hold what the old ones hold
pub record AreSame (old new : Tables) : Type 0 where
  pub states : new.states.items ≡ old.states.items
  pub transitions : new.transitions.items ≡ old.transitions.items
  pub rows : new.rows.items ≡ old.rows.items
  pub classes : new.classes ≡ old.classes
  pub matches : new.matches.items ≡ old.matches.items
  pub start : new.start ≡ old.start
  pub max_match : new.max_match ≡ old.max_match
