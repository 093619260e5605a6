-- What an automaton was built as, what its calls on states return, and what its searches return and cost.
use Rattle.std.specs.Prelude.{◌≡◌, ◌≢◌, ◌⊎◌, ◌↔◌, ℕ, ◌-◌, ◌<◌, ◌≤◌, Bool, false, true, List, [], ◌∷◌, ◌++◌, length, take, IsTrue, Option, None, Some, Result, Ok, Err}
use Rattle.ac_input.specs.Number.{StateID}
use Rattle.ac_input.specs.declared.search.Anchored.{Anchored}
use Rattle.ac_input.specs.declared.search.Anchored.TheVariants.{No, Yes}
use Rattle.ac_input.specs.declared.search.MatchKind.{MatchKind}
use Rattle.ac_input.specs.declared.steps.Steps.{Steps}
use Rattle.ac_input.specs.Best.{IsBest, asked_kind}
use Rattle.ac_input.specs.Candidate.{Filter}
use Rattle.ac_input.specs.Computed.{walk_of, listing_of}
use Rattle.ac_input.specs.Dictionary.{Dictionary, IsLive, live_len}
use Rattle.ac_input.specs.Input.{Asked, is_anchored, search_of}
use Rattle.ac_input.specs.Occurrence.{Search, Occurrence}
use Rattle.ac_input.specs.Work.{HasCounted, IsFindWork, IsLookups, come_at_least}
use Rattle.ac_automaton.specs.declared.automaton.Advance.{Advance}
use Rattle.ac_automaton.specs.declared.error.MatchErrorKind.{MatchErrorKind}
use Rattle.ac_automaton.specs.declared.error.MatchErrorKind.TheVariants.{InvalidInputAnchored, InvalidInputUnanchored}

-- What an automaton was built as: what it finds, whether it looks at exactly one state for a byte, its prefilter, and whether
-- it has lanes: it may read ahead of a search.
pub record Built : Type 0 where
  pub dictionary : Dictionary
  pub deterministic : Bool
  pub prefilter : Option Filter
  pub lanes : Bool

-- of at most how many bytes, and of at most how many patterns, an automaton is asked whether it rules out that any occurs
abbrev pub most_asked_bytes : ℕ
most_asked_bytes = 128

abbrev pub most_asked_patterns : ℕ
most_asked_patterns = 16

-- the bytes and the patterns are few enough for that
abbrev pub MayAsk : Built → List ℕ → Type 0
MayAsk b bytes = (length bytes ≤ most_asked_bytes) × (length b.dictionary.patterns ≤ most_asked_patterns)

-- an automaton's prefilter, if it has one, was made for its own dictionary
abbrev pub OwnsPrefilter : Built → Type 0
OwnsPrefilter b = (f : Filter) → b.prefilter ≡ Some f → f.dictionary ≡ b.dictionary

-- ---- states

-- A state that is reached from one start, by some text. Which text is left open: a caller may know only that there is
-- one.
abbrev pub IsReached : (List ℕ → StateID → Type 0) → StateID → Type 0
IsReached Reaches sid = ∥ ((text : List ℕ) × Reaches text sid) ∥₁

-- a state that is reached from some start, by some text
abbrev pub IsState : (Anchored → List ℕ → StateID → Type 0) → StateID → Type 0
IsState Reaches sid = ∥ ((anchored : Anchored) × (text : List ℕ) × Reaches anchored text sid) ∥₁

-- a property holds of every start and text by which the state is reached
abbrev pub AtEach : (Anchored → List ℕ → StateID → Type 0) → StateID → (Anchored → List ℕ → Type 0) → Type 0
AtEach Reaches sid P = (anchored : Anchored) (text : List ℕ) → Reaches anchored text sid → P anchored text

-- these bytes lead from one state to another, whatever text led to the first
abbrev pub Leads : (List ℕ → StateID → Type 0) → StateID → List ℕ → StateID → Type 0
Leads Reaches from bytes to = (text : List ℕ) → Reaches text from → Reaches (text ++ bytes) to

-- what it may cost to read these bytes from a state
abbrev pub IsReadCost : Built → (Anchored → List ℕ → StateID → Type 0) → Anchored → StateID → List ℕ → Steps → Steps
    → Type 0
IsReadCost b Reaches anchored sid bytes old new =
    (text : List ℕ) (before after : Option ℕ) → Reaches anchored text sid
    → IsLive b.dictionary (is_anchored anchored) text before
    → IsLive b.dictionary (is_anchored anchored) (text ++ bytes) after
    → IsLookups b.deterministic (length bytes) (live_len text before) (live_len (text ++ bytes) after) old new

-- a dead text: no later byte can lead to a match
abbrev pub IsDead : Built → Anchored → List ℕ → Type 0
IsDead b anchored text = IsLive b.dictionary (is_anchored anchored) text None

-- the result says whether the text is dead
abbrev pub TellsDead : Built → Bool → Anchored → List ℕ → Type 0
TellsDead b dead anchored text = IsTrue dead ↔ IsDead b anchored text

-- at a start where no pattern matches, none of the bytes read is live
abbrev pub StartIsEmpty : Built → List ℕ → Bool → Anchored → List ℕ → Type 0
StartIsEmpty b matches start anchored text =
    IsTrue start → matches ≡ [] → IsLive b.dictionary (is_anchored anchored) text (Some (length text))

-- What the result of `is_start` means for a text. A start isn't dead, and has no live byte if no pattern matches there.
-- A state whose text has no live byte is a start.
pub record StartTells (b : Built) (matches : List ℕ) (start : Bool) (anchored : Anchored) (text : List ℕ) : Type 0 where
  pub alive : IsTrue start → ¬ IsDead b anchored text
  pub empty : StartIsEmpty b matches start anchored text
  pub back : IsLive b.dictionary (is_anchored anchored) text (Some (length text)) → IsTrue start

-- the result of `is_start` is right for every start and text by which the state is reached
abbrev pub TellsStart : Built → (Anchored → List ℕ → StateID → Type 0) → (StateID → List ℕ) → StateID → Bool → Type 0
TellsStart b Reaches matches sid start = AtEach Reaches sid (StartTells b (matches sid) start)

-- A state at which a search has more to do than to read on: the text is dead, or patterns match, or it is a start and
-- there is a prefilter to run.
abbrev pub IsSpecial : Built → List ℕ → Bool → Anchored → List ℕ → Type 0
IsSpecial b matches start anchored text =
    IsDead b anchored text ⊎ (matches ≢ []) ⊎ (IsTrue start × (b.prefilter ≢ None))

-- no state on the way is special, except perhaps the last one
abbrev pub PassesPlain : (List ℕ → StateID → Type 0) → (StateID → Bool) → StateID → List ℕ → ℕ → Type 0
PassesPlain Reaches special sid bytes taken =
    (at : ℕ) → 0 < at → at < taken → (mid : StateID) × Leads Reaches sid (take at bytes) mid × ¬ IsTrue (special mid)

-- Reading on over bytes stops at the first special state, or after the last byte.
pub record Advances (Reaches : List ℕ → StateID → Type 0) (special : StateID → Bool) (sid : StateID) (bytes : List ℕ)
    (stop : Advance) : Type 0 where
  pub taken : (stop.taken ≤ length bytes) × (0 < length bytes → 0 < stop.taken)
  pub reads : Leads Reaches sid (take stop.taken bytes) stop.sid
  pub plain : PassesPlain Reaches special sid bytes stop.taken
  pub stops : stop.taken < length bytes → IsTrue (special stop.sid)

-- whether there are patterns in a list
abbrev pub has_some : List ℕ → Bool
has_some [] = false
has_some (n ∷ ns) = true

-- whether patterns match at a state
abbrev pub is_matching : (StateID → List ℕ) → StateID → Bool
is_matching matches sid = has_some (matches sid)

-- reading on over bytes stops at the first state where a pattern matches, or after the last byte
abbrev pub AdvancesToMatch : (List ℕ → StateID → Type 0) → (StateID → List ℕ) → StateID → List ℕ → Advance → Type 0
AdvancesToMatch Reaches matches sid bytes stop = Advances Reaches (is_matching matches) sid bytes stop

-- ---- searches

-- the error of a search whose anchoring has no start
abbrev pub refusal_of : Anchored → MatchErrorKind
refusal_of No = InvalidInputUnanchored
refusal_of Yes = InvalidInputAnchored

-- the result is the start for this anchoring, or an error if there is none
abbrev pub AnswersStart : (Anchored → Type 0) → (Anchored → List ℕ → StateID → Type 0) → Anchored
    → Result StateID MatchErrorKind → Type 0
AnswersStart supports Reaches anchored (Ok sid) = supports anchored × Reaches anchored [] sid
AnswersStart supports Reaches anchored (Err error) = (¬ supports anchored × (error ≡ refusal_of anchored))

-- the kind of match that a search uses
abbrev pub kind_asked : Built → Asked → MatchKind
kind_asked b asked = asked_kind b.dictionary.kind asked.earliest

-- the search that an input describes
abbrev pub searched : Built → Asked → Search
searched b asked = search_of b.dictionary asked.anchored asked.haystack asked.span

-- the match that a find returns
abbrev pub IsFound : Built → Asked → Option Occurrence → Type 0
IsFound b asked r = IsBest (kind_asked b asked) (searched b asked) r

-- the prefilter that a search may use: an anchored one uses none
abbrev pub prefilter_for : Built → Anchored → Option Filter
prefilter_for b No = b.prefilter
prefilter_for b Yes = None

-- what a find may cost, and the least that it counts: each byte that it passes
pub record IsFindCost (b : Built) (asked : Asked) (before after : Steps) (r : Option Occurrence) : Type 0 where
  pub work : IsFindWork (kind_asked b asked) b.deterministic (searched b asked) r before after
  pub counted : HasCounted (prefilter_for b asked.anchored) (come_at_least (searched b asked) r - asked.span.start)
      before after

-- the result is the match that the search finds, if any, or an error if its anchoring has no start
abbrev pub Finds : Dictionary → (Anchored → Type 0) → Asked → Result (Option Occurrence) MatchErrorKind → Type 0
Finds m supports asked (Ok r) =
    supports asked.anchored × IsBest (asked_kind m.kind asked.earliest)
    (search_of m asked.anchored asked.haystack asked.span) r
Finds m supports asked (Err error) = (¬ supports asked.anchored × (error ≡ refusal_of asked.anchored))

-- what a find may cost; an error costs nothing
abbrev pub CostsFind : Built → Asked → Steps → Steps → Result (Option Occurrence) MatchErrorKind → Type 0
CostsFind b asked before after (Ok r) = IsFindCost b asked before after r
CostsFind b asked before after (Err error) = after ≡ before

-- all matches, one after another
abbrev pub walk_in : Built → Asked → List Occurrence
walk_in b asked = walk_of (kind_asked b asked) (searched b asked)

-- all occurrences, by end, start and number
abbrev pub listing_in : Built → Asked → List Occurrence
listing_in b asked = listing_of (searched b asked)
