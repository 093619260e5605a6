-- What the automaton that serves was built as, and what holds of its states: what each of the three defines.
use Rattle.std.specs.Prelude.{ℕ, Bool, List}
use Rattle.ac_input.specs.declared.search.Anchored.{Anchored}
use Rattle.ac_automaton.specs.Automaton.{Built}
use Rattle.ac_noncontiguous.specs.Nfa.Reads.{built_as, IsRead, matches_at, is_start_at, is_special_at}
use Rattle.ac_tables.specs.Contiguous.Reads.{contiguous_built_as, IsContiguousRead, contiguous_matches_at, is_contiguous_start_at, is_contiguous_special_at}
use Rattle.ac_tables.specs.Dfa.Reads.{dfa_built_as, dfa_supported_by, IsDfaRead, dfa_matches_at, is_dfa_start_at, is_dfa_special_at}
use Rattle.aho_corasick.specs.declared.ahocorasick.AhoCorasickKind.{AhoCorasickKind}
use Rattle.aho_corasick.specs.declared.ahocorasick.AhoCorasickKind.TheVariants as kinds
use Rattle.aho_corasick.specs.declared.engine.Engine.{Engine}
use Rattle.aho_corasick.specs.declared.engine.Engine.TheVariants.{Noncontiguous, Contiguous, Dfa}

-- which of the three automata it is
abbrev pub kind_served : Engine → AhoCorasickKind
kind_served (Noncontiguous nfa) = kinds.NoncontiguousNFA
kind_served (Contiguous nfa) = kinds.ContiguousNFA
kind_served (Dfa dfa) = kinds.DFA

-- what the automaton was built as
abbrev pub engine_built_as : Engine → Built
engine_built_as (Noncontiguous nfa) = built_as nfa
engine_built_as (Contiguous nfa) = contiguous_built_as nfa
engine_built_as (Dfa dfa) = dfa_built_as dfa

-- the automaton has a start for searches of this anchoring
abbrev pub engine_supported_by : Engine → Anchored → Type 0
engine_supported_by (Noncontiguous nfa) anchored = Unit {0}
engine_supported_by (Contiguous nfa) anchored = Unit {0}
engine_supported_by (Dfa dfa) anchored = dfa_supported_by dfa anchored

-- a search of this anchoring reaches the state by this text
abbrev pub IsEngineRead : Engine → Anchored → List ℕ → ℕ → Type 0
IsEngineRead (Noncontiguous nfa) = IsRead nfa
IsEngineRead (Contiguous nfa) = IsContiguousRead nfa
IsEngineRead (Dfa dfa) = IsDfaRead dfa

-- the patterns that match at a state
abbrev pub engine_matches_at : Engine → ℕ → List ℕ
engine_matches_at (Noncontiguous nfa) = matches_at nfa
engine_matches_at (Contiguous nfa) = contiguous_matches_at nfa
engine_matches_at (Dfa dfa) = dfa_matches_at dfa

-- whether a state is a start
abbrev pub is_engine_start_at : Engine → ℕ → Bool
is_engine_start_at (Noncontiguous nfa) = is_start_at nfa
is_engine_start_at (Contiguous nfa) = is_contiguous_start_at nfa
is_engine_start_at (Dfa dfa) = is_dfa_start_at dfa

-- whether a search has more to do at a state than to read on
abbrev pub is_engine_special_at : Engine → ℕ → Bool
is_engine_special_at (Noncontiguous nfa) = is_special_at nfa
is_engine_special_at (Contiguous nfa) = is_contiguous_special_at nfa
is_engine_special_at (Dfa dfa) = is_dfa_special_at dfa
