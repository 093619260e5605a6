-- What the read calls of the automaton return, and what that says about the texts for which its states stand.
use Rattle.std.specs.Prelude.{◌≡◌, ◌≢◌, ◌↔◌, ◌⊎◌, ℕ, ◌+◌, ◌-◌, ◌<◌, ◌≤◌, map, List, [], ◌∷◌, ◌++◌, length, slice_get, Option, Some, None, take, drop}
use Rattle.ac_automaton.specs.Named.{nowhere}
use Rattle.ac_input.specs.Number.{greatest_number}
use Rattle.ac_input.specs.declared.search.Anchored.{Anchored}
use Rattle.ac_input.specs.declared.search.Anchored.TheVariants.{No, Yes}
use Rattle.ac_automaton.specs.Automaton.{IsReached}
use Rattle.ac_input.specs.Candidate.{Filter}
use Rattle.ac_input.specs.Alphabet.Classes.{AreByteClasses}
use Rattle.ac_input.specs.Dictionary.{Dictionary, BeginsEntered}
use Rattle.ac_input.specs.Failure.{IsList, AreOnce}
use Rattle.ac_input.specs.Input.{is_anchored}
use Rattle.ac_input.specs.Limits.{canonical_text, IsPrefix, HasStates, IsWithinLimits}
use Rattle.ac_input.specs.Pairing.{IsPairing}
use Rattle.ac_input.specs.States.{LeadsTo, FailsTo, BeginsBefore}
use Rattle.ac_noncontiguous.specs.declared.nfa.NFA.{NFA}
use Rattle.ac_noncontiguous.specs.declared.nfa.Special.{Special}
use Rattle.ac_noncontiguous.specs.declared.nfa.tables.Tables.{Tables}
use Rattle.ac_noncontiguous.specs.Nfa.Lookups.{other_start, AreSame}
use Rattle.ac_noncontiguous.specs.Nfa.{state_of, IsEdge, InOneRun, AreTables, kept_of, edge_of}
use Rattle.ac_noncontiguous.specs.Nfa.Reads.{dictionary, built_as, matches_at, IsRead}

-- ---- what is stored

-- how many states there are
abbrev pub state_len : NFA → ℕ
state_len nfa = length nfa.tables.states.items - 1

-- the state to which a state fails, and its depth
abbrev pub fail_in : NFA → ℕ → ℕ
fail_in nfa sid = (kept_of nfa.tables.states.items sid).fail

abbrev pub depth_in : NFA → ℕ → ℕ
depth_in nfa sid = (kept_of nfa.tables.states.items sid).depth

-- the transitions of a state
abbrev pub edges_in : NFA → ℕ → List (ℕ × ℕ)
edges_in nfa sid =
    map edge_of
    (take ((kept_of nfa.tables.states.items (sid + 1)).transitions - (kept_of nfa.tables.states.items sid).transitions)
    (drop (kept_of nfa.tables.states.items sid).transitions nfa.tables.transitions.items))

-- the classes of the bytes
abbrev pub classes_in : NFA → List ℕ
classes_in nfa = nfa.tables.classes

-- the last special state, the last state that matches, and both starts
abbrev pub special_in : NFA → Special
special_in nfa =
    record {
      max_special_id = nfa.max_special;
      max_match_id = nfa.tables.max_match;
      start_unanchored_id = nfa.tables.start;
      start_anchored_id = nfa.tables.start + 1;
    }

-- ---- what it means

-- an automaton of the dictionary has this many states, and each has a number
pub record CountsIn (nfa : NFA) (states : ℕ) : Type 0 where
  pub counted : ∥ HasStates (dictionary nfa) states ∥₁
  pub few : states ≤ greatest_number + 1

-- P holds of the states' texts, whatever these are
abbrev pub OfTexts : NFA → ((ℕ → List ℕ) → Type 0) → Type 0
OfTexts nfa P = (text : ℕ → List ℕ) → AreTables (dictionary nfa) text nfa.tables → P text

-- the texts are of canonical bytes, and each begins an entered pattern
abbrev pub TextsBegin : NFA → Type 0
TextsBegin nfa =
    OfTexts nfa
    (λ text. (sid : ℕ) → 1 < sid → sid < state_len nfa
    → BeginsEntered (dictionary nfa) (text sid) × (canonical_text (dictionary nfa) (text sid) ≡ text sid))

-- The text of a state fails to this state, which is shallower. The dead state and the fail state fail to the dead one,
-- and no state fails to the fail state or to the anchored start.
pub record FailsIn (nfa : NFA) (sid fail : ℕ) : Type 0 where
  pub within : fail < state_len nfa
  pub stands : fail ≢ nowhere
  pub unanchored : fail ≢ (special_in nfa).start_anchored_id
  pub shallower : 1 < fail → depth_in nfa fail < depth_in nfa sid
  pub dead : sid < 2 → fail ≡ 0
  pub fails : OfTexts nfa (λ text. 1 < sid → FailsTo (dictionary nfa) (text sid) (state_of text fail))

-- the text of a state has this many bytes; the dead state and the fail state have depth 0
abbrev pub IsDeepIn : NFA → ℕ → ℕ → Type 0
IsDeepIn nfa sid depth = OfTexts nfa (λ text. (sid < 2 → depth ≡ 0) × (1 < sid → depth ≡ length (text sid)))

-- These patterns match at a state, each once; at the dead state and at the fail state none does.
pub record ListsIn (nfa : NFA) (sid : ℕ) (ns : List ℕ) : Type 0 where
  pub once : AreOnce (dictionary nfa) ns
  pub few : length ns ≤ greatest_number + 1
  pub none : sid < 2 → ns ≡ []
  pub list : OfTexts nfa (λ text. 1 < sid → IsList (dictionary nfa) (text sid) ns)

-- a state that has a transition for each byte: the dead state and both starts
abbrev pub IsFull : NFA → ℕ → Type 0
IsFull nfa sid = (sid ≡ 0) ⊎ (sid ≡ (special_in nfa).start_unanchored_id) ⊎ (sid ≡ (special_in nfa).start_anchored_id)

-- where a byte leads from a state without a failure, if the states stand for these texts
abbrev pub IsEdgeIn : NFA → (ℕ → List ℕ) → ℕ → ℕ → ℕ → Type 0
IsEdgeIn nfa text sid byte next =
    IsEdge (dictionary nfa) (state_len nfa) (special_in nfa).start_unanchored_id text sid byte next

-- Each transition of a state leads to where its byte leads, and a byte without a transition leads nowhere. The
-- transitions of a state that isn't full lead to a state that is one byte longer.
pub record AreLeading (nfa : NFA) (text : ℕ → List ℕ) (sid : ℕ) (edges : List (ℕ × ℕ)) : Type 0 where
  pub lead : (k byte next : ℕ) → slice_get edges k ≡ Some (byte, next) → IsEdgeIn nfa text sid byte next
  pub missing : (byte : ℕ) → byte < 256 → ((k next : ℕ) → slice_get edges k ≢ Some (byte, next))
      → IsEdgeIn nfa text sid byte nowhere
  pub longer : (k byte next : ℕ) → 1 < sid → ¬ IsFull nfa sid → slice_get edges k ≡ Some (byte, next)
      → BeginsEntered (dictionary nfa) (text sid ++ byte ∷ [])

-- The transitions of a state come in rising order of byte, and each leads to a state. The dead state and both starts
-- have one for each byte, and the fail state has none. Every other state has only those that lead to a state one byte
-- longer.
pub record AreEdges (nfa : NFA) (sid : ℕ) (edges : List (ℕ × ℕ)) : Type 0 where
  pub within : (k byte next : ℕ) → slice_get edges k ≡ Some (byte, next) → (byte < 256) × (next < state_len nfa)
  pub rising : (j k b c n o : ℕ) → j < k → slice_get edges j ≡ Some (b, n) → slice_get edges k ≡ Some (c, o) → b < c
  pub all : IsFull nfa sid → length edges ≡ 256
  pub none : sid ≡ nowhere → edges ≡ []
  pub some : (k byte next : ℕ) → ¬ IsFull nfa sid → slice_get edges k ≡ Some (byte, next) → 1 < next
  pub leading : OfTexts nfa (λ text. AreLeading nfa text sid edges)

-- a state that a search of this anchoring may reach: not the fail state, and not the other start
pub record MayBeMet (nfa : NFA) (anchored : Anchored) (sid : ℕ) : Type 0 where
  pub within : sid < state_len nfa
  pub stands : sid ≢ nowhere
  pub own : sid ≢ other_start (special_in nfa).start_unanchored_id (is_anchored anchored)

-- a byte leads from one state to another in a search of this anchoring, all failures followed
pub record LeadsIn (nfa : NFA) (anchored : Anchored) (sid byte next : ℕ) : Type 0 where
  pub met : MayBeMet nfa anchored next
  pub dead : sid ≡ 0 → next ≡ 0
  pub leads : OfTexts nfa
      (λ text. 1 < sid → LeadsTo (dictionary nfa) (is_anchored anchored) (text sid ++ byte ∷ []) (state_of text next))

-- ---- which states are read

-- A state is reached by reading a text exactly if the text leads to what the state stands for. So each state past 1 is
-- reached from either start by its own text, except the other start. The dead state is reached wherever a text is dead.
-- From the anchored start some text always is; from the unanchored one, if a state other than the starts fails to the
-- dead state. Under the standard kind no text is dead from the unanchored start. The fail state is never reached.
pub record AreRead (nfa : NFA) : Type 0 where
  pub stands : OfTexts nfa
      (λ names. (anchored : Anchored) (text : List ℕ) (sid : ℕ) → MayBeMet nfa anchored sid
      → LeadsTo (dictionary nfa) (is_anchored anchored) text (state_of names sid) → IsRead nfa anchored text sid)
  pub named : OfTexts nfa
      (λ names. (anchored : Anchored) (text : List ℕ) (sid : ℕ) → IsRead nfa anchored text sid
      → MayBeMet nfa anchored sid × LeadsTo (dictionary nfa) (is_anchored anchored) text (state_of names sid))
  pub each : (anchored : Anchored) (sid : ℕ) → 1 < sid → MayBeMet nfa anchored sid → IsReached (IsRead nfa anchored) sid
  pub dead : IsReached (IsRead nfa Yes) 0
  pub fails : (sid : ℕ) → 1 < sid → sid < state_len nfa → ¬ IsFull nfa sid → IsReached (IsRead nfa No) (fail_in nfa sid)

-- ---- the order of the states

-- No two states but the starts stand for one text, and each prefix of an entered pattern has a state. Before the starts
-- and after them the states come in order of depth. States of one depth come in order of the first pattern that begins
-- with their texts.
pub record AreOrdered (nfa : NFA) (text : ℕ → List ℕ) : Type 0 where
  pub apart : (i j : ℕ) → 1 < i → i < j → j < state_len nfa → text i ≡ text j
      → (i ≡ (special_in nfa).start_unanchored_id) × (j ≡ (special_in nfa).start_anchored_id)
  pub all : (t : List ℕ) → IsPrefix (dictionary nfa) t → (i : ℕ) × (1 < i) × (i < state_len nfa) × (text i ≡ t)
  pub deeper : (i j : ℕ) → i < j → j < state_len nfa → InOneRun (special_in nfa).start_unanchored_id i j
      → depth_in nfa i ≤ depth_in nfa j
  pub by_first : (i j : ℕ) → i < j → j < state_len nfa → InOneRun (special_in nfa).start_unanchored_id i j
      → depth_in nfa i ≡ depth_in nfa j → BeginsBefore (dictionary nfa) (text i) (text j)

-- ---- the numbers that divide the states into groups

-- The numbers that divide the states into groups. States at which some pattern matches come first, then the unanchored
-- start, the anchored start, and all others. If the starts match, they count among the first. Both starts stand for the
-- empty text, and no other state does. The last special state is the anchored start if there is a prefilter, otherwise
-- the last state that matches.
pub record AreBounds (nfa : NFA) (text : ℕ → List ℕ) (special : Special) : Type 0 where
  pub past : 1 < special.start_unanchored_id
  pub next : special.start_anchored_id ≡ special.start_unanchored_id + 1
  pub within : special.start_anchored_id < state_len nfa
  pub empty : (sid : ℕ) → 1 < sid → sid < state_len nfa
      → (text sid ≡ []) ↔ ((sid ≡ special.start_unanchored_id) ⊎ (sid ≡ special.start_anchored_id))
  pub matching : (sid : ℕ) → 1 < sid → sid < state_len nfa
      → (0 < length (matches_at nfa sid)) ↔ (sid ≤ special.max_match_id)
  pub last_match : (special.max_match_id + 1 ≡ special.start_unanchored_id)
      ⊎ (special.max_match_id ≡ special.start_anchored_id)
  pub without_prefilter : (built_as nfa).prefilter ≡ None → special.max_special_id ≡ special.max_match_id
  pub with_prefilter : (f : Filter) → (built_as nfa).prefilter ≡ Some f
      → special.max_special_id ≡ special.start_anchored_id

-- ---- the whole

-- What the read calls return for an automaton as a whole, and for each of its states. Other automata are made from this
-- alone.
pub record IsReadable (nfa : NFA) : Type 0 where
  pub stand : ∥ ((text : ℕ → List ℕ) × AreTables (dictionary nfa) text nfa.tables) ∥₁
  pub begin : TextsBegin nfa
  pub bounds : OfTexts nfa (λ text. AreBounds nfa text (special_in nfa))
  pub counted : CountsIn nfa (state_len nfa)
  pub within : ∥ IsWithinLimits (dictionary nfa) ∥₁
  pub ordered : OfTexts nfa (AreOrdered nfa)
  pub classes : (∥ AreByteClasses (dictionary nfa) (classes_in nfa) ∥₁)
  pub paired : IsPairing (dictionary nfa).pairing
  pub fails : (sid : ℕ) → sid < state_len nfa → FailsIn nfa sid (fail_in nfa sid)
  pub deep : (sid : ℕ) → sid < state_len nfa → IsDeepIn nfa sid (depth_in nfa sid)
  pub edges : (sid : ℕ) → sid < state_len nfa → AreEdges nfa sid (edges_in nfa sid)
  pub lists : (sid : ℕ) → sid < state_len nfa → ListsIn nfa sid (matches_at nfa sid)

-- ---- how it is made

-- the automaton is made for this dictionary, from these tables, and has this prefilter
pub record IsMadeOf (m : Dictionary) (from : Tables) (held : Option Filter) (nfa : NFA) : Type 0 where
  pub dictionary : dictionary nfa ≡ m
  pub tables : nfa.tables ≡ from
  pub prefilter : nfa.prefilter ≡ held

-- ---- copies

-- a copy of the automaton
pub record IsCopy (old new : NFA) : Type 0 where
  pub dictionary : dictionary new ≡ dictionary old
  pub prefilter : new.prefilter ≡ old.prefilter
  pub tables : AreSame old.tables new.tables
