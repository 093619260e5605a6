-- Which automaton serves under the settings of a builder, what is built, and why a build fails.
use Rattle.std.specs.Prelude.{◌≡◌, ◌≢◌, ◌⊎◌, ℕ, ◌<◌, ◌≤◌, length, List, Option, None, Some, Result, Ok, Err}
use Rattle.ac_input.specs.declared.search.StartKind.TheVariants.{Both, Unanchored}
use Rattle.ac_input.specs.Dfa.{IsDfaTooLarge}
use Rattle.ac_input.specs.Dictionary.{Dictionary}
use Rattle.ac_input.specs.Limits.{IsWithinLimits}
use Rattle.ac_input.specs.Number.{greatest_number}
use Rattle.ac_noncontiguous.specs.Builder.{IsHeld}
use Rattle.ac_noncontiguous.specs.Nfa.Reads.{dictionary}
use Rattle.ac_noncontiguous.specs.Standing.{IsBuildRefused}
use Rattle.ac_noncontiguous.specs.declared.error.BuildErrorKind.{BuildErrorKind}
use Rattle.ac_noncontiguous.specs.declared.error.BuildErrorKind.TheVariants.{StateIDOverflow, Memory}
use Rattle.ac_noncontiguous.specs.declared.nfa.NFA.{NFA}
use Rattle.ac_noncontiguous.specs.declared.settings.Settings.{Settings}
use Rattle.ac_tables.specs.Contiguous.Builder.{IsMadeFrom, contiguous_dense_depth}
use Rattle.ac_tables.specs.Contiguous.Table.{ArePlacesTooGreat}
use Rattle.ac_tables.specs.Source.{AreClassesFor}
use Rattle.ac_tables.specs.Dfa.Builder.{IsDfaOf}
use Rattle.ac_tables.specs.declared.contiguous.NFA.{NFA as Contiguous}
use Rattle.ac_tables.specs.declared.dfa.DFA.{DFA as Deterministic}
use Rattle.aho_corasick.specs.declared.ahocorasick.AhoCorasick.{AhoCorasick}
use Rattle.aho_corasick.specs.declared.ahocorasick.AhoCorasickKind.{AhoCorasickKind}
use Rattle.aho_corasick.specs.declared.ahocorasick.AhoCorasickKind.TheVariants.{NoncontiguousNFA, ContiguousNFA, DFA}
use Rattle.aho_corasick.specs.declared.ahocorasick.builder.AhoCorasickBuilder.{AhoCorasickBuilder}
use Rattle.aho_corasick.specs.declared.engine.Engine.{Engine}
use Rattle.aho_corasick.specs.AhoCorasick.{as_built, serving_engine, settings_of, start_kind_of}
use Rattle.aho_corasick.specs.Builder.{AreFrontDefaults, front_dictionary}
use Rattle.aho_corasick.specs.Engine.{kind_served}
use Rattle.aho_corasick.specs.Made.{IsMadeBy}

-- ---- which one serves

-- an automaton of this kind, built of the dictionary, would be within its own limit
abbrev pub IsWithinFor : Settings → Dictionary → AhoCorasickKind → Type 0
IsWithinFor s m DFA = ¬ IsDfaTooLarge m s.start_kind s.byte_classes
IsWithinFor s m ContiguousNFA =
    (from : NFA) × (classes : List ℕ) × (dictionary from ≡ m) × AreClassesFor from s.byte_classes classes
    × ¬ ArePlacesTooGreat from (contiguous_dense_depth s) classes
IsWithinFor s m NoncontiguousNFA = Unit {0}

-- an automaton of this kind, built of the dictionary, would pass its own limit
abbrev pub IsTooLargeFor : Settings → Dictionary → AhoCorasickKind → Type 0
IsTooLargeFor s m DFA = ∥ IsDfaTooLarge m s.start_kind s.byte_classes ∥₁
IsTooLargeFor s m ContiguousNFA =
    (from : NFA) × (classes : List ℕ) × (dictionary from ≡ m) × AreClassesFor from s.byte_classes classes
    × ArePlacesTooGreat from (contiguous_dense_depth s) classes
IsTooLargeFor s m NoncontiguousNFA = ⊥

-- the greatest number of patterns for which a DFA is taken if no automaton is named
abbrev pub most_for_dfa : ℕ
most_for_dfa = 100

-- a DFA is taken if no automaton is named: for one anchoring and few patterns, if it isn't too large
abbrev pub TakesDfa : Settings → Dictionary → Type 0
TakesDfa s m = (s.start_kind ≢ Both) × (length m.patterns ≤ most_for_dfa) × IsWithinFor s m DFA

-- Which automaton serves a dictionary: the one that is named, within its limit. If none is named, it is the DFA if one
-- is taken, else the contiguous NFA if it isn't too large, else the noncontiguous NFA.
abbrev pub IsServed : Option AhoCorasickKind → Settings → Dictionary → AhoCorasickKind → Type 0
IsServed (Some named) s m kind = (kind ≡ named) × IsWithinFor s m kind
IsServed None s m DFA = TakesDfa s m
IsServed None s m ContiguousNFA = (¬ TakesDfa s m) × IsWithinFor s m ContiguousNFA
IsServed None s m NoncontiguousNFA = (¬ TakesDfa s m) × IsTooLargeFor s m ContiguousNFA

-- ---- what is built

-- The automaton is built of the patterns, which are within the limits of a build, by the settings, and serves their
-- searches. It holds a prefilter as one is wanted, and is of the kind that serves.
pub record IsFrontBuilt (b : AhoCorasickBuilder) (patterns : List (List ℕ)) (ac : AhoCorasick) : Type 0 where
  pub dictionary : (as_built ac).dictionary ≡ front_dictionary b.settings patterns
  pub within : IsWithinLimits (front_dictionary b.settings patterns)
  pub prefilter : IsHeld b.settings.prefilter (front_dictionary b.settings patterns) (as_built ac).prefilter
  pub starts : start_kind_of ac ≡ b.settings.start_kind
  pub served : IsServed b.kind b.settings (front_dictionary b.settings patterns) (kind_served (serving_engine ac))
  pub settings : settings_of ac ≡ b

-- the automaton that was named would be too large for a dictionary
pub record IsNamedTooLarge (b : AhoCorasickBuilder) (m : Dictionary) (error : BuildErrorKind) : Type 0 where
  pub named : AhoCorasickKind
  pub asked : b.kind ≡ Some named
  pub large : IsTooLargeFor b.settings m named
  pub requested : ℕ
  pub past : greatest_number < requested
  pub overflow : error ≡ StateIDOverflow greatest_number requested

-- Why none is built of these patterns: they pass a limit of every build, or the automaton that was named would be too
-- large, or memory ran out.
abbrev pub IsFrontBuildRefused : AhoCorasickBuilder → List (List ℕ) → BuildErrorKind → Type 0
IsFrontBuildRefused b patterns error =
    IsBuildRefused (front_dictionary b.settings patterns) error
    ⊎ IsNamedTooLarge b (front_dictionary b.settings patterns) error

-- an automaton that is built under the default settings, which are for searches that aren't anchored; and why none is
pub record IsFrontBuiltByDefault (patterns : List (List ℕ)) (ac : AhoCorasick) : Type 0 where
  pub builder : AhoCorasickBuilder
  pub defaults : AreFrontDefaults builder
  pub built : IsFrontBuilt builder patterns ac
  pub starts : start_kind_of ac ≡ Unanchored

abbrev pub IsFrontRefusedByDefault : List (List ℕ) → BuildErrorKind → Type 0
IsFrontRefusedByDefault patterns error =
    (b : AhoCorasickBuilder) × AreFrontDefaults b × IsFrontBuildRefused b patterns error

-- ---- how an automaton is made

-- the result of trying a DFA: one that is made from the noncontiguous NFA, or none if none is taken
abbrev pub IsTriedDfa : Settings → NFA → Option Deterministic → Type 0
IsTriedDfa s from (Some dfa) =
    (s.start_kind ≢ Both) × (length (dictionary from).patterns ≤ most_for_dfa) × IsDfaOf s from dfa
IsTriedDfa s from None = ¬ TakesDfa s (dictionary from)

-- the result of trying a contiguous NFA: one that is made from the noncontiguous NFA, or none if it would be too large
abbrev pub IsTriedContiguous : Settings → NFA → Option Contiguous → Type 0
IsTriedContiguous s from (Some made) = IsMadeFrom s from made
IsTriedContiguous s from None = IsTooLargeFor s (dictionary from) ContiguousNFA

-- the automaton is made from the noncontiguous NFA, and is of the kind that serves if this one is named, or none is
abbrev pub IsEngineOf : Option AhoCorasickKind → Settings → NFA → Engine → Type 0
IsEngineOf named s from engine = IsMadeBy s from engine × IsServed named s (dictionary from) (kind_served engine)

-- why none can be made from a noncontiguous NFA: the automaton that was named would be too large, or memory ran out
abbrev pub IsNotMade : AhoCorasickBuilder → NFA → BuildErrorKind → Type 0
IsNotMade b from error = (error ≡ Memory) ⊎ IsNamedTooLarge b (dictionary from) error

-- ---- trying the next

-- the automaton that was made, or none if it would be too large; any other error is returned unchanged
abbrev pub IsFitting : {T : Type 0} → Result T BuildErrorKind → Result (Option T) BuildErrorKind → Type 0
IsFitting made (Ok (Some it)) = made ≡ Ok it
IsFitting made (Ok None) = (max requested : ℕ) × (made ≡ Err (StateIDOverflow max requested))
IsFitting made (Err error) = (made ≡ Err error) × ((max requested : ℕ) → error ≢ StateIDOverflow max requested)
