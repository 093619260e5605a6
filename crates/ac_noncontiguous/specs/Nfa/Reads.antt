-- What the automaton is built as, and what is known about a state that a search has reached.
use Rattle.std.specs.Prelude.{ℕ, ◌+◌, ◌==◌, ◌||◌, nat_le, Bool, false, List}
use Rattle.ac_input.specs.declared.search.Anchored.{Anchored}
use Rattle.ac_input.specs.Dictionary.{Dictionary, dictionary_of}
use Rattle.ac_automaton.specs.Automaton.{Built}
use Rattle.ac_automaton.specs.Named.{NamedStates, IsReadBy}
use Rattle.ac_noncontiguous.specs.declared.nfa.NFA.{NFA}
use Rattle.ac_noncontiguous.specs.Nfa.{list_of}
use Rattle.ac_noncontiguous.specs.Nfa.Lookups.{IsNamingOf}

-- what the automaton is made from
abbrev pub dictionary : NFA → Dictionary
dictionary nfa = dictionary_of nfa.lens nfa.pairing nfa.kind

-- what the automaton is built as: more than one state may be looked at for a byte, and it has no lanes
abbrev pub built_as : NFA → Built
built_as nfa =
    record { dictionary = dictionary nfa; deterministic = false; prefilter = nfa.prefilter; lanes = false }

-- the patterns that match at a state
abbrev pub matches_at : NFA → ℕ → List ℕ
matches_at nfa sid = list_of nfa.tables.states.items nfa.tables.matches.items sid

-- the state is one of the two starts
abbrev pub is_start_at : NFA → ℕ → Bool
is_start_at nfa sid = (sid == nfa.tables.start) || (sid == nfa.tables.start + 1)

-- the state is at most the last special one
abbrev pub is_special_at : NFA → ℕ → Bool
is_special_at nfa sid = nat_le sid nfa.max_special

-- what its numbers stand for, list and say
abbrev pub named_states : NFA → NamedStates
named_states nfa = record {
  built = built_as nfa;
  Fits = IsNamingOf (dictionary nfa) nfa.tables;
  matches = matches_at nfa;
  starts = is_start_at nfa;
  special = is_special_at nfa;
}

-- a search of this anchoring reaches the state by reading the text
abbrev pub IsRead : NFA → Anchored → List ℕ → ℕ → Type 0
IsRead nfa anchored text sid = IsReadBy (named_states nfa) anchored text sid
