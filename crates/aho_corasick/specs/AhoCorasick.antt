-- What an `AhoCorasick` was built as, and what its searches return when they can't fail.
use Rattle.std.specs.Prelude.{◌≡◌, ℕ, List, length}
use Rattle.ac_input.specs.declared.search.Anchored.{Anchored}
use Rattle.ac_input.specs.declared.search.MatchKind.{MatchKind}
use Rattle.ac_input.specs.declared.search.StartKind.{StartKind}
use Rattle.ac_input.specs.Dfa.{Serves}
use Rattle.ac_input.specs.Input.{Asked}
use Rattle.ac_input.specs.Occurrence.{Search, Occurrence, Occurs}
use Rattle.ac_automaton.specs.Automaton.{Built, walk_in, listing_in}
use Rattle.ac_automaton.specs.InMemory.Iter.{Walk, fresh_walk, left_of}
use Rattle.ac_automaton.specs.InMemory.Overlapping as overlapping
use Rattle.ac_automaton.specs.declared.in_memory.overlapping.OverlappingState.{OverlappingState}
use Rattle.ac_automaton.specs.InMemory.Overlapping.OverlappingIter.{Run, fresh_run, rest_of}
use Rattle.aho_corasick.specs.declared.ahocorasick.AhoCorasick.{AhoCorasick}
use Rattle.aho_corasick.specs.declared.ahocorasick.builder.AhoCorasickBuilder.{AhoCorasickBuilder}
use Rattle.aho_corasick.specs.declared.engine.Engine.{Engine}
use Rattle.aho_corasick.specs.Engine.{IsEngineRead, engine_matches_at}

-- the automaton that serves
abbrev pub serving_engine : AhoCorasick → Engine
serving_engine ac = ac.shared.value.engine

-- what it was built as, and by which settings
abbrev pub as_built : AhoCorasick → Built
as_built ac = ac.shared.value.built.value

abbrev pub settings_of : AhoCorasick → AhoCorasickBuilder
settings_of ac = ac.shared.value.settings.value

-- the automaton's patterns, by number, and how many there are
abbrev pub patterns_of : AhoCorasick → List (List ℕ)
patterns_of ac = (as_built ac).dictionary.patterns

abbrev pub pattern_count : AhoCorasick → ℕ
pattern_count ac = length (patterns_of ac)

-- which of several overlapping occurrences is the match
abbrev pub kind_of : AhoCorasick → MatchKind
kind_of ac = (as_built ac).dictionary.kind

-- which bytes stand for one another
abbrev pub pairing_of : AhoCorasick → List ℕ
pairing_of ac = (as_built ac).dictionary.pairing

-- the start kind that was set, whichever automaton serves, and the searches that have a start by it
abbrev pub start_kind_of : AhoCorasick → StartKind
start_kind_of ac = ac.start_kind

abbrev pub supported_by : AhoCorasick → Anchored → Type 0
supported_by ac anchored = Serves (start_kind_of ac) anchored

-- an overlapping state is fresh, or came from earlier calls with this automaton and input alone
abbrev pub CameFromCalls : AhoCorasick → Asked → OverlappingState → Type 0
CameFromCalls ac asked state =
    overlapping.CameFrom (as_built ac) (λ anchored text sid. IsEngineRead (serving_engine ac) anchored text sid)
    (λ sid. engine_matches_at (serving_engine ac) sid) asked state

-- one means the same as another: they share the automaton that serves, with what it was built as and by, for the same
-- searches
pub record MeansSame (ac other : AhoCorasick) : Type 0 where
  pub shared : other.shared.value ≡ ac.shared.value
  pub starts : start_kind_of other ≡ start_kind_of ac

-- some pattern occurs in the search
abbrev pub HasOccurrence : Search → Type 0
HasOccurrence s = (o : Occurrence) × Occurs s o

-- a walk over all matches of an input, which has not begun
abbrev pub IsWalkOver : Built → Asked → Walk → Type 0
IsWalkOver b asked walk = (walk ≡ fresh_walk b asked) × (left_of walk ≡ walk_in b asked)

-- a run through all occurrences of an input, which has not begun
abbrev pub IsRunOver : Built → Asked → Run → Type 0
IsRunOver b asked run = (run ≡ fresh_run b asked) × (rest_of run ≡ listing_in b asked)
