-- What a DFA is built as, and what is known of a number that a search has come to.
use Rattle.std.specs.Prelude.{◌≡◌, ℕ, ◌==◌, ◌||◌, nat_le, Bool, true, List, Option}
use Rattle.ac_input.specs.declared.search.Anchored.{Anchored}
use Rattle.ac_input.specs.Candidate.{Filter}
use Rattle.ac_input.specs.Dfa.{Serves}
use Rattle.ac_input.specs.Dictionary.{Dictionary, dictionary_of}
use Rattle.ac_automaton.specs.Automaton.{Built}
use Rattle.ac_automaton.specs.Named.{NamedStates, Naming, IsReadBy}
use Rattle.ac_tables.specs.declared.dfa.DFA.{DFA}
use Rattle.ac_tables.specs.declared.dfa.table.Table.{Table}
use Rattle.ac_tables.specs.Dfa.Table.{AreDfaRows, dfa_matches_by}

-- what the automaton is made from
abbrev pub dfa_dictionary : DFA → Dictionary
dfa_dictionary dfa = dictionary_of dfa.lens dfa.pairing dfa.kind

-- what the automaton is built as: exactly one state is looked at for a byte
abbrev pub dfa_built_as : DFA → Built
dfa_built_as dfa =
    record { dictionary = dfa_dictionary dfa; deterministic = true; prefilter = dfa.prefilter; lanes = dfa.lanes }

-- the automaton has a start for searches of this anchoring
abbrev pub dfa_supported_by : DFA → Anchored → Type 0
dfa_supported_by dfa anchored = Serves dfa.table.kind anchored

-- the patterns that match at a number
abbrev pub dfa_matches_at : DFA → ℕ → List ℕ
dfa_matches_at dfa sid = dfa_matches_by dfa.table sid

-- the number is that of one of the two starts
abbrev pub is_dfa_start_at : DFA → ℕ → Bool
is_dfa_start_at dfa sid = (sid == dfa.table.start) || (sid == dfa.table.start_anchored)

-- the number is at most the last special one
abbrev pub is_dfa_special_at : DFA → ℕ → Bool
is_dfa_special_at dfa sid = nat_le sid dfa.max_special

-- The numbers have these names, and the automaton has a start for searches of this anchoring.
abbrev pub IsNamingFor : DFA → Anchored → Naming → Type 0
IsNamingFor dfa anchored names = Serves dfa.table.kind anchored × AreDfaRows (dfa_dictionary dfa) dfa.table names

-- what its numbers stand for, list and say in searches of an anchoring
abbrev pub dfa_named_states : DFA → Anchored → NamedStates
dfa_named_states dfa anchored = record {
  built = dfa_built_as dfa;
  Fits = IsNamingFor dfa anchored;
  matches = dfa_matches_at dfa;
  starts = is_dfa_start_at dfa;
  special = is_dfa_special_at dfa;
}

-- a search of this anchoring reaches the number by reading the text
abbrev pub IsDfaRead : DFA → Anchored → List ℕ → ℕ → Type 0
IsDfaRead dfa anchored text sid = IsReadBy (dfa_named_states dfa anchored) anchored text sid

-- the automaton is made for this dictionary, from this table, and has this prefilter, and lanes or none
pub record IsDfaMadeOf (m : Dictionary) (from : Table) (held : Option Filter) (chosen : Bool) (dfa : DFA) : Type 0 where
  pub dictionary : dfa_dictionary dfa ≡ m
  pub table : dfa.table ≡ from
  pub prefilter : dfa.prefilter ≡ held
  pub lanes : dfa.lanes ≡ chosen
