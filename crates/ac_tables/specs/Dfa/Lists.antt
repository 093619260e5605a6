-- How the lists of a DFA are made.
use Rattle.std.specs.Prelude.{◌≡◌, ℕ, ◌+◌, ◌<◌, List, [], ◌∷◌, ◌++◌, length, slice_index}
use Rattle.ac_noncontiguous.specs.declared.nfa.NFA.{NFA}
use Rattle.ac_noncontiguous.specs.Nfa.Reads.{dictionary, matches_at}
use Rattle.ac_noncontiguous.specs.Nfa.ReadCalls.{special_in}
use Rattle.ac_tables.specs.declared.dfa.lists.Lists.{Lists}
use Rattle.ac_tables.specs.Dfa.Table.{list_start, dfa_list_of, AreListRanges}

-- a list is appended to the others
pub record IsListAdded (list : List ℕ) (old new : Lists) : Type 0 where
  pub patterns : new.patterns.items ≡ old.patterns.items ++ list
  pub ends : new.ends.items ≡ old.ends.items ++ length new.patterns.items ∷ []

-- the lists of this many states of an automaton, from state 2 on
pub record AreFirstLists (nfa : NFA) (n : ℕ) (lists : Lists) : Type 0 where
  pub counted : length lists.ends.items ≡ n
  pub total : list_start lists n ≡ length lists.patterns.items
  pub each : (k : ℕ) → k < n → dfa_list_of lists k ≡ matches_at nfa (k + 2)
  pub ranges : AreListRanges lists
  pub known : (k : ℕ) → k < length lists.patterns.items
      → slice_index lists.patterns.items k < length (dictionary nfa).patterns

-- the lists of all states of an automaton that match
abbrev pub AreListsOf : NFA → Lists → Type 0
AreListsOf nfa lists = (n : ℕ) × (n + 1 ≡ (special_in nfa).max_match_id) × AreFirstLists nfa n lists
