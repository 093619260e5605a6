-- A search of a text that is passed piece by piece: what it begins as, and what each call does.
use Rattle.std.specs.Prelude.{◌≡◌, ◌≢◌, ◌⊎◌, ℕ, ◌<◌, ◌≤◌, ◌||◌, Bool, true, false, List, [], ◌++◌, length, map, take, Result, Ok, Err, drop}
use Rattle.std.specs.List.{All}
use Rattle.ac_input.specs.Occurrence.{Occurrence}
use Rattle.ac_input.specs.declared.search.MatchKind.{MatchKind}
use Rattle.ac_automaton.specs.Automaton.{Built}
use Rattle.ac_automaton.specs.Stream.{AllWords, AreAllGiven, CanBeCounted, IsHeldItem, IsOnCourse, IsSearched, Picks, ReadsNothing, Sequence, StreamProgress, Words, closed_by, cut_of, fresh_progress, read_by}
use Rattle.ac_automaton.specs.Stream.Push.{Pushes}
use Rattle.ac_automaton.specs.Stream.WholeWords.{asked_for}
use Rattle.ac_automaton.specs.declared.error.StreamError.{StreamError}
use Rattle.aho_corasick.specs.AhoCorasick.{as_built}
use Rattle.aho_corasick.specs.declared.ahocorasick.AhoCorasick.{AhoCorasick}
use Rattle.ac_c.specs.declared.found.Found.{Found}
use Rattle.ac_c.specs.declared.searching.Count.{Count}
use Rattle.ac_c.specs.declared.searching.Pushed.{Pushed}
use Rattle.ac_c.specs.declared.searching.Searching.{Searching}
use Rattle.ac_c.specs.declared.searching.Searching.TheVariants.{ForAllWords, ForMatches, ForWords}
use Rattle.ac_c.specs.declared.searching.View.{View}
use Rattle.ac_c.specs.Found.{shown}
use Rattle.ac_c.specs.Status.{ok, finished, too_many_bytes}
use Rattle.ac_c.specs.Walk.{given_status}

-- ---- how it begins

-- a search that was passed nothing yet
abbrev pub begun : {q : Sequence} → Built → Pushed (StreamProgress q)
begun b = record { search = fresh_progress b; finished = false }

-- a search by this automaton for matches
abbrev pub begun_by : AhoCorasick → Searching
begun_by ac = ForMatches (begun (as_built ac))

-- one for whole words under a kind, one after another
abbrev pub words_begun_by : AhoCorasick → MatchKind → Searching
words_begun_by ac kind = ForWords (begun (asked_for kind (as_built ac)))

-- one for all whole words
abbrev pub all_words_begun_by : AhoCorasick → Searching
all_words_begun_by ac = ForAllWords (begun (as_built ac))

-- ---- what a push takes

-- a search as it is seen, where `progress` says how far it has come
abbrev pub seen_by : {S : Type 0} {q : Sequence} → (S → StreamProgress q) → Pushed S → Pushed (StreamProgress q)
seen_by progress s = record { search = progress s.search; finished = s.finished }

-- whether the search was told that no more pieces come
abbrev pub is_finished : {q : Sequence} → Pushed (StreamProgress q) → Bool
is_finished s = s.finished || s.search.closed

-- as C sees it
abbrev pub push_of : Result ℕ StreamError → Count
push_of (Ok n) = record { count = n; status = ok }
push_of (Err error) = record { count = 0; status = too_many_bytes }

-- A finished search takes nothing, and is unchanged. Any other takes what the library's search takes.
abbrev pub IsPushed : {q : Sequence} → Pushed (StreamProgress q) → List ℕ → Pushed (StreamProgress q) → Count → Type 0
IsPushed s piece t taken =
    ((is_finished s ≡ true) × (t ≡ s) × (taken ≡ record { count = 0; status = finished }))
    ⊎ ((is_finished s ≡ false) × (t.finished ≡ s.finished) × (r : Result ℕ StreamError)
    × Pushes (IsSearched s.search) s.search t.search piece r × (taken ≡ push_of r))

-- ---- which items come next

-- These items were returned in between, and nothing was taken. Each of them lies among the held bytes.
pub record Returns {q : Sequence} (s t : StreamProgress q) (os : List Occurrence) : Type 0 where
  pub nothing : ReadsNothing s t
  pub given : t.given ≡ s.given ++ os
  pub held : All (IsHeldItem s) os
  pub some : os ≢ [] → CanBeCounted (read_by s) × ¬ AreAllGiven s

-- the occurrences are the first n entries of the buffer
pub record AreShown (os : List Occurrence) (old new : List Found) (n : ℕ) : Type 0 where
  pub count : n ≡ length os
  pub room : n ≤ length old
  pub shown : take n new ≡ map shown os

-- The next items that are decided are the first entries of the buffer. Where it has room left, all were returned.
abbrev pub AreNext : {q : Sequence} → StreamProgress q → StreamProgress q → List Found → List Found → ℕ → Type 0
AreNext s t old new n =
    (os : List Occurrence) × Returns s t os × AreShown os old new n
    × (n < length old → CanBeCounted (read_by s) → AreAllGiven t)

-- as C sees it
abbrev pub IsGiven : {q : Sequence} → Pushed (StreamProgress q) → Pushed (StreamProgress q) → List Found → List Found
    → Count → Type 0
IsGiven s t old new given =
    AreNext s.search t.search old new given.count × (t.finished ≡ s.finished)
    × (given.status ≡ given_status (length old) given.count)

-- ---- the held bytes, and the end of the pieces

abbrev pub view_of : {q : Sequence} → Pushed (StreamProgress q) → View
view_of s =
    record {
      len = length (drop s.search.from (read_by s.search));
      from = s.search.from;
      cut = cut_of s.search;
      status = ok;
    }

abbrev pub finished_by : {q : Sequence} → Pushed (StreamProgress q) → Pushed (StreamProgress q)
finished_by s = record { search = closed_by s.search; finished = true }

-- ---- whichever a handle holds

-- the search that a handle holds, whichever its sequence is
abbrev pub search_in : Searching → (q : Sequence) × Pushed (StreamProgress q)
search_in (ForMatches s) = (Picks, s)
search_in (ForWords s) = (Words, s)
search_in (ForAllWords s) = (AllWords, s)

-- a call turns it into another one of the same sequence; `Turn` says what the call does
abbrev pub Turns : ((q : Sequence) → Pushed (StreamProgress q) → Pushed (StreamProgress q) → Type 0) → Searching → Searching → Type 0
Turns Turn (ForMatches s) new = (t : Pushed (StreamProgress Picks)) × (new ≡ ForMatches t) × Turn Picks s t
Turns Turn (ForWords s) new = (t : Pushed (StreamProgress Words)) × (new ≡ ForWords t) × Turn Words s t
Turns Turn (ForAllWords s) new = (t : Pushed (StreamProgress AllWords)) × (new ≡ ForAllWords t) × Turn AllWords s t

-- the first bytes of a piece were taken, or why none were
abbrev pub TakesPushed : Searching → List ℕ → Searching → Count → Type 0
TakesPushed s piece t taken = Turns (λ q a b. IsPushed a piece b taken) s t

-- the next items are in the buffer
abbrev pub GivesNext : Searching → Searching → List Found → List Found → Count → Type 0
GivesNext s t before after given = Turns (λ q a b. IsGiven a b before after given) s t

-- the held bytes
abbrev pub held_by : Searching → List ℕ
held_by s = let p = (search_in s).1.search in drop p.from (read_by p)

abbrev pub view_in : Searching → View
view_in s = view_of (search_in s).1

abbrev pub IsOnItsCourse : Searching → Type 0
IsOnItsCourse s = IsOnCourse (search_in s).1.search

-- it was told that no more pieces come
abbrev pub finished_with : Searching → Searching
finished_with (ForMatches s) = ForMatches (finished_by s)
finished_with (ForWords s) = ForWords (finished_by s)
finished_with (ForAllWords s) = ForAllWords (finished_by s)
