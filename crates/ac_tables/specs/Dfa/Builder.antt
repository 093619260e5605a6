-- What is built by the settings of a builder of DFAs.
use Rattle.std.specs.Prelude.{◌≡◌, ◌⊎◌, ℕ, ◌/◌, ◌<◌, true, List, length}
use Rattle.std.specs.Borrow.{Bor}
use Rattle.ac_input.specs.Number.{greatest_number}
use Rattle.ac_input.specs.Dfa.{IsDfaTooLarge, dfa_states}
use Rattle.ac_input.specs.Dictionary.{Dictionary}
use Rattle.ac_noncontiguous.specs.declared.error.BuildErrorKind.{BuildErrorKind}
use Rattle.ac_noncontiguous.specs.declared.error.BuildErrorKind.TheVariants.{StateIDOverflow, PatternIDOverflow, PatternTooLong, Memory}
use Rattle.ac_noncontiguous.specs.declared.nfa.NFA.{NFA}
use Rattle.ac_noncontiguous.specs.declared.settings.Settings.{Settings}
use Rattle.ac_noncontiguous.specs.Builder.{IsBuiltOf, dictionary_by}
use Rattle.ac_noncontiguous.specs.Nfa.Reads.{built_as, dictionary}
use Rattle.ac_noncontiguous.specs.Nfa.ReadCalls.{state_len}
use Rattle.ac_noncontiguous.specs.Standing.{IsBuildRefused}
use Rattle.ac_tables.specs.declared.dfa.DFA.{DFA}
use Rattle.ac_tables.specs.Source.{AreClassesFor}
use Rattle.ac_tables.specs.Dfa.Reads.{dfa_built_as}
use Rattle.ac_tables.specs.Dfa.Table.{AreTransitionsOf, stride_of}

-- ---- what a DFA is

-- how many rows a DFA's table has
abbrev pub states_in : DFA → ℕ
states_in dfa = length dfa.table.trans.items / stride_of dfa.table

-- ---- made from an automaton

-- A DFA is made from an automaton by the settings, which give its starts and its classes. It is built as the automaton
-- is, but may have lanes; its table has the automaton's states, and it isn't too large.
pub record IsDfaOf (s : Settings) (nfa : NFA) (dfa : DFA) : Type 0 where
  pub built : dfa_built_as dfa ≡ (record (built_as nfa) { deterministic = true; lanes = dfa.lanes })
  pub starts : dfa.table.kind ≡ s.start_kind
  pub classes : AreClassesFor nfa s.byte_classes dfa.table.classes
  pub states : states_in dfa ≡ dfa_states s.start_kind (state_len nfa)
  pub laid : AreTransitionsOf nfa s.start_kind dfa.table.classes (stride_of dfa.table) dfa.table.trans.items
  pub within : ¬ IsDfaTooLarge (dictionary nfa) s.start_kind s.byte_classes

-- Why a build fails: the dictionary's table would be too large, out of memory, or the error is one of the others.
abbrev pub IsTooLargeOr : Settings → Dictionary → (BuildErrorKind → Type 0) → BuildErrorKind → Type 0
IsTooLargeOr s m other (StateIDOverflow max requested) =
    ((max ≡ greatest_number) × (max < requested) × ∥ IsDfaTooLarge m s.start_kind s.byte_classes ∥₁)
    ⊎ other (StateIDOverflow max requested)
IsTooLargeOr s m other (PatternIDOverflow max requested) = other (PatternIDOverflow max requested)
IsTooLargeOr s m other (PatternTooLong pattern len) = other (PatternTooLong pattern len)
IsTooLargeOr s m other Memory = Unit {0}

-- ---- built from patterns

-- a DFA is made from an automaton that was built from these patterns
abbrev pub IsDfaBuilt : Settings → List (Bor (List ℕ)) → DFA → Type 0
IsDfaBuilt s patterns dfa = (nfa : NFA) × IsBuiltOf s patterns (built_as nfa) × IsDfaOf s nfa dfa

-- why no DFA can be built from these patterns
abbrev pub IsDfaBuildRefused : Settings → List (Bor (List ℕ)) → BuildErrorKind → Type 0
IsDfaBuildRefused s patterns error =
    IsTooLargeOr s (dictionary_by s patterns) (IsBuildRefused (dictionary_by s patterns)) error

-- ---- copies

-- a copy of the automaton
pub record IsDfaCopy (old new : DFA) : Type 0 where
  pub built : dfa_built_as new ≡ dfa_built_as old
  pub starts : new.table.kind ≡ old.table.kind
  pub classes : new.table.classes ≡ old.table.classes
  pub stride : stride_of new.table ≡ stride_of old.table
  pub transitions : new.table.trans.items ≡ old.table.trans.items
