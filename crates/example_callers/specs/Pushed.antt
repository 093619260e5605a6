-- What the callers know of a search whose pieces they push.
use Rattle.std.specs.Prelude.{◌≡◌, ℕ, List, ◌++◌}
use Rattle.ac_input.specs.Occurrence.{Occurrence}
use Rattle.ac_automaton.specs.Stream.{AreAllGiven, CanBeCounted, IsSearched, Sequence, StreamProgress, read_by}

-- all that was pushed is searched, and these are the items that were returned
pub record IsGathered {q : Sequence} (s : StreamProgress q) (found : List Occurrence) : Type 0 where
  pub few : CanBeCounted (read_by s)
  pub searched : IsSearched s
  pub given : found ≡ s.given

-- these bytes were pushed in between
pub record WentOn {q : Sequence} (s t : StreamProgress q) (bytes : List ℕ) : Type 0 where
  pub built : t.built ≡ s.built
  pub closed : t.closed ≡ s.closed
  pub read : read_by t ≡ read_by s ++ bytes

-- nothing was pushed in between, and these are the items that were returned
pub record IsSame {q : Sequence} (s t : StreamProgress q) (found : List Occurrence) : Type 0 where
  pub built : t.built ≡ s.built
  pub closed : t.closed ≡ s.closed
  pub read : read_by t ≡ read_by s
  pub given : found ≡ t.given

-- nothing was pushed in between, and these items were returned: all that are decided
abbrev pub HasGathered : {q : Sequence} → StreamProgress q → StreamProgress q → List Occurrence → Type 0
HasGathered s t found = IsSame s t found × AreAllGiven t
