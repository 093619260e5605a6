-- How C's settings are read, and what a build returns.
use Rattle.std.specs.Prelude.{◌≡◌, ◌≢◌, ◌⊎◌, ℕ, ◌==◌, if◌then◌else◌, Bool, true, false, List, [], map, Option, Some, None, Result, Ok, Err}
use Rattle.ac_input.specs.declared.search.MatchKind.{MatchKind}
use Rattle.ac_input.specs.declared.search.MatchKind.TheVariants.{Standard, LeftmostFirst, LeftmostLongest}
use Rattle.ac_input.specs.declared.search.StartKind.{StartKind}
use Rattle.ac_input.specs.declared.search.StartKind.TheVariants.{Unanchored, Anchored, Both}
use Rattle.ac_input.specs.Pairing.{named, partner, IsDistinct, IsFirstTwice, IsFolded}
use Rattle.ac_input.specs.Same.{other}
use Rattle.ac_noncontiguous.specs.Builder.{default_row_memory}
use Rattle.ac_noncontiguous.specs.declared.error.BuildErrorKind.{BuildErrorKind}
use Rattle.ac_noncontiguous.specs.declared.error.BuildErrorKind.TheVariants.{StateIDOverflow, PatternIDOverflow, PatternTooLong, Memory}
use Rattle.aho_corasick.specs.AhoCorasick.{MeansSame}
use Rattle.aho_corasick.specs.Served.{IsFrontBuilt, IsFrontBuildRefused}
use Rattle.aho_corasick.specs.declared.ahocorasick.AhoCorasick.{AhoCorasick}
use Rattle.aho_corasick.specs.declared.ahocorasick.AhoCorasickKind.{AhoCorasickKind}
use Rattle.aho_corasick.specs.declared.ahocorasick.AhoCorasickKind.TheVariants.{NoncontiguousNFA, ContiguousNFA, DFA}
use Rattle.aho_corasick.specs.declared.ahocorasick.builder.AhoCorasickBuilder.{AhoCorasickBuilder}
use Rattle.ac_c.specs.declared.build.Fault.{Fault}
use Rattle.ac_c.specs.declared.build.Pair.{Pair}
use Rattle.ac_c.specs.declared.build.Refusal.{Refusal}
use Rattle.ac_c.specs.declared.build.Settings.{Settings}
use Rattle.ac_c.specs.Find.{is_set}
use Rattle.ac_c.specs.Handle.{HeldAutomaton}
use Rattle.ac_c.specs.Status.{ok, no_memory, bad_kind, bad_start_kind, bad_engine, bad_pairs, build_status}
use Rattle.ac_c.specs.Walk.{no_place}

-- ---- what a fault reports

abbrev pub no_fault : Fault
no_fault = record { count = 0; pattern = 0 }

abbrev pub plain : ℕ → Refusal
plain status = record { status = status; fault = no_fault }

-- the number that exceeds its limit, or the pattern that is too long and its length
abbrev pub build_fault : BuildErrorKind → Fault
build_fault (StateIDOverflow max requested) = record { count = requested; pattern = 0 }
build_fault (PatternIDOverflow max requested) = record { count = requested; pattern = 0 }
build_fault (PatternTooLong pattern len) = record { count = len; pattern = pattern }
build_fault Memory = no_fault

abbrev pub build_refusal : BuildErrorKind → Refusal
build_refusal error = record { status = build_status error; fault = build_fault error }

-- ---- how the settings are read

abbrev pub kind_by : ℕ → Option MatchKind
kind_by n =
    if n == 0 then Some Standard
    else (if n == 1 then Some LeftmostFirst else (if n == 2 then Some LeftmostLongest else None))

abbrev pub start_kind_by : ℕ → Option StartKind
start_kind_by n =
    if n == 0 then Some Unanchored else (if n == 1 then Some Anchored else (if n == 2 then Some Both else None))

-- 0 leaves the choice to the library, and each further number names an automaton
abbrev pub engine_by : ℕ → Option (Option AhoCorasickKind)
engine_by n =
    if n == 0 then Some None
    else (if n == 1 then Some (Some NoncontiguousNFA)
    else (if n == 2 then Some (Some ContiguousNFA) else (if n == 3 then Some (Some DFA) else None)))

-- a dense depth, or none for the greatest number
abbrev pub depth_by : ℕ → Option ℕ
depth_by depth = if depth == no_place then None else Some depth

abbrev pub pairs_of : List Pair → List (ℕ × ℕ)
pairs_of pairs = map (λ p. (p.a, p.b)) pairs

-- which bytes match each other: the letters in their two cases, or those of the pairs
abbrev pub IsPairingOf : Bool → List Pair → List ℕ → Type 0
IsPairingOf true pairs pairing = (pairs ≡ []) × IsFolded true pairing
IsPairingOf false pairs pairing =
    IsDistinct (named (pairs_of pairs)) × ((b : ℕ) → other pairing b ≡ partner (pairs_of pairs) b)

-- why there is no pairing: pairs are given beside folding; or a byte is named twice
abbrev pub IsPairingRefused : Bool → List Pair → Refusal → Type 0
IsPairingRefused true pairs refusal = (pairs ≢ []) × (refusal ≡ plain bad_pairs)
IsPairingRefused false pairs refusal =
    (byte : ℕ) × IsFirstTwice (named (pairs_of pairs)) byte
    × (refusal ≡ record { status = bad_pairs; fault = record { count = 0; pattern = byte } })

abbrev pub PairsBy : ℕ → List Pair → Result (List ℕ) Refusal → Type 0
PairsBy fold pairs (Ok pairing) = IsPairingOf (is_set fold) pairs pairing
PairsBy fold pairs (Err refusal) = IsPairingRefused (is_set fold) pairs refusal

-- the library's builder that C's settings and pairs stand for
pub record IsBuilderBy (settings : Settings) (pairs : List Pair) (b : AhoCorasickBuilder) : Type 0 where
  pub kind : kind_by settings.kind ≡ Some b.settings.match_kind
  pub start_kind : start_kind_by settings.start_kind ≡ Some b.settings.start_kind
  pub engine : engine_by settings.engine ≡ Some b.kind
  pub pairing : IsPairingOf (is_set settings.fold) pairs b.settings.pairing
  pub prefilter : b.settings.prefilter ≡ is_set settings.prefilter
  pub dense_depth : b.settings.dense_depth ≡ depth_by settings.dense_depth
  pub byte_classes : b.settings.byte_classes ≡ is_set settings.byte_classes
  pub row_memory : b.settings.row_memory ≡ settings.row_memory

-- the status for the first of the settings whose number names nothing
abbrev pub bad_number : Settings → Option ℕ
bad_number s =
    elim (kind_by s.kind) [
      | None ↦ Some bad_kind
      | Some kind ↦
          elim (start_kind_by s.start_kind) [
            | None ↦ Some bad_start_kind
            | Some start ↦
                elim (engine_by s.engine) [ None ↦ Some bad_engine | Some engine ↦ None ]
          ]
    ]

-- why the settings are refused: a number that names nothing, or the pairing
abbrev pub AreRefused : Settings → List Pair → Refusal → Type 0
AreRefused s pairs refusal =
    ((status : ℕ) × (bad_number s ≡ Some status) × (refusal ≡ plain status))
    ⊎ ((bad_number s ≡ None) × IsPairingRefused (is_set s.fold) pairs refusal)

abbrev pub AnswersBuilder : Settings → List Pair → Result AhoCorasickBuilder Refusal → Type 0
AnswersBuilder settings pairs (Ok b) = IsBuilderBy settings pairs b
AnswersBuilder settings pairs (Err refusal) = AreRefused settings pairs refusal

-- the settings of a new builder
pub record AreDefaults (s : Settings) : Type 0 where
  pub kind : s.kind ≡ 0
  pub start_kind : s.start_kind ≡ 0
  pub engine : s.engine ≡ 0
  pub fold : s.fold ≡ 0
  pub prefilter : is_set s.prefilter ≡ true
  pub byte_classes : is_set s.byte_classes ≡ true
  pub dense_depth : depth_by s.dense_depth ≡ None
  pub row_memory : s.row_memory ≡ default_row_memory

-- ---- what is built

-- the automaton that C's settings ask for; or why there is none: the settings are refused, or the library's build is
abbrev pub IsBuiltFrom : List (List ℕ) → Settings → List Pair → Result AhoCorasick Refusal → Type 0
IsBuiltFrom patterns settings pairs (Ok ac) =
    (b : AhoCorasickBuilder) × IsBuilderBy settings pairs b × IsFrontBuilt b patterns ac
IsBuiltFrom patterns settings pairs (Err refusal) = AreRefused settings pairs refusal
    ⊎ ((b : AhoCorasickBuilder) × IsBuilderBy settings pairs b × (error : BuildErrorKind)
    × IsFrontBuildRefused b patterns error × (refusal ≡ build_refusal error))

-- the handle holds the automaton; or status and fault report why there is none, and the handle is unchanged
abbrev pub AnswersBuild : List (List ℕ) → Settings → List Pair → HeldAutomaton → HeldAutomaton → Fault → ℕ → Type 0
AnswersBuild patterns settings pairs old new fault status =
    ((ac : AhoCorasick) × IsBuiltFrom patterns settings pairs (Ok ac) × (new ≡ Some ac) × (status ≡ ok)
    × (fault ≡ no_fault))
    ⊎ (IsBuiltFrom patterns settings pairs (Err (record { status = status; fault = fault })) × (new ≡ old))

-- the new handle holds a copy, which means the same automaton; or memory ran out, and the handle is unchanged
abbrev pub IsShared : AhoCorasick → HeldAutomaton → HeldAutomaton → ℕ → Type 0
IsShared ac old new status =
    ((copy : AhoCorasick) × MeansSame ac copy × (new ≡ Some copy) × (status ≡ ok))
    ⊎ ((status ≡ no_memory) × (new ≡ old))
