-- The settings of a builder of automata, and what is built.
use Rattle.std.specs.Prelude.{◌≡◌, ◌≢◌, ℕ, Bool, true, false, List, Option, None, Some}
use Rattle.std.specs.Borrow.{Bor}
use Rattle.std.specs.Option.{unwrap_or}
use Rattle.ac_input.specs.Candidate.{Filter}
use Rattle.ac_input.specs.Alphabet.Classes.{AreByteClasses}
use Rattle.ac_input.specs.Dictionary.{Dictionary, dictionary_of}
use Rattle.ac_input.specs.Limits.{IsWithinLimits}
use Rattle.ac_input.specs.Pairing.{IsPairing}
use Rattle.ac_input.specs.Same.{IsUnpaired}
use Rattle.ac_input.specs.declared.search.MatchKind.TheVariants.{Standard}
use Rattle.ac_input.specs.declared.search.StartKind.TheVariants.{Unanchored}
use Rattle.ac_automaton.specs.Automaton.{Built}
use Rattle.ac_literal.specs.Packed.{bytes_of}
use Rattle.ac_literal.specs.Prefilter.{IsDemanded, IsAdmissible, IsWayOf}
use Rattle.ac_noncontiguous.specs.Nfa.{AreTables, AreRowsBelow}
use Rattle.ac_noncontiguous.specs.declared.nfa.NFA.{NFA}
use Rattle.ac_noncontiguous.specs.declared.nfa.tables.Tables.{Tables}
use Rattle.ac_noncontiguous.specs.declared.settings.Settings.{Settings}

-- below which depth a noncontiguous automaton's states have a row: by default the starts and the states of one or two
-- bytes do
abbrev pub noncontiguous_dense_depth : Settings → ℕ
noncontiguous_dense_depth s = unwrap_or s.dense_depth 3

-- how many bytes the rows of a contiguous automaton may take by default: 16 MiB
abbrev pub default_row_memory : ℕ
default_row_memory = 16777216

-- the default settings
pub record AreDefaultSettings (s : Settings) : Type 0 where
  pub match_kind : s.match_kind ≡ Standard
  pub start_kind : s.start_kind ≡ Unanchored
  pub pairing : IsUnpaired s.pairing
  pub prefilter : s.prefilter ≡ true
  pub dense_depth : s.dense_depth ≡ None
  pub byte_classes : s.byte_classes ≡ true
  pub row_memory : s.row_memory ≡ default_row_memory

-- this holds of the default settings
abbrev pub ByDefault : (Settings → Type 0) → Type 0
ByDefault holds = (s : Settings) × AreDefaultSettings s × holds s

-- the dictionary of these patterns under the settings
abbrev pub dictionary_by : Settings → List (Bor (List ℕ)) → Dictionary
dictionary_by s patterns = dictionary_of (bytes_of patterns) s.pairing s.match_kind

-- The stored prefilter: none if none is wanted, otherwise one wherever the dictionary demands it, and only an
-- admissible one.
pub record IsHeld (wanted : Bool) (m : Dictionary) (held : Option Filter) : Type 0 where
  pub off : wanted ≡ false → held ≡ None
  pub demanded : wanted ≡ true → IsDemanded m → held ≢ None
  pub made : (f : Filter) → held ≡ Some f → IsAdmissible m × IsWayOf f.dictionary f.needles × (f.dictionary ≡ m)

-- An automaton was built for a dictionary, which is within the limits of a build, with a prefilter if one is wanted.
pub record IsBuiltBy (wanted : Bool) (m : Dictionary) (built : Built) : Type 0 where
  pub dictionary : built.dictionary ≡ m
  pub looks : built.deterministic ≡ false
  pub prefilter : IsHeld wanted m built.prefilter
  pub within : IsWithinLimits m

-- an automaton was built from these patterns under the settings
abbrev pub IsBuiltOf : Settings → List (Bor (List ℕ)) → Built → Type 0
IsBuiltOf s patterns built = IsBuiltBy s.prefilter (dictionary_by s patterns) built

-- the automaton's rows are those of the states that are to have one under the settings
abbrev pub HasRowsBy : Settings → NFA → Type 0
HasRowsBy s nfa = AreRowsBelow (noncontiguous_dense_depth s) nfa.tables

-- The tables and their byte classes are those of the dictionary, whose pairing is a valid one.
abbrev pub AreCompiled : Dictionary → Tables → Type 0
AreCompiled m tables =
    ((text : ℕ → List ℕ) × AreTables m text tables) × AreByteClasses m tables.classes × IsPairing m.pairing
