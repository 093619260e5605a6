-- What an automaton's walk over the bytes of a stream's last read requires, and how it returns every occurrence.
use Rattle.std.specs.Prelude.{◌≡◌, ℕ, ◌+◌, ◌-◌, ◌<◌, List, length, slice_get, None, Some}
use Rattle.ac_input.specs.declared.search.Anchored.TheVariants.{No}
use Rattle.ac_input.specs.declared.steps.Steps.{Steps}
use Rattle.ac_input.specs.Tells.{ending_at}
use Rattle.ac_automaton.specs.InMemory.Find.Ahead.{IsAheadOf}
use Rattle.ac_automaton.specs.Stream.{Occurrences, StreamProgress}
use Rattle.ac_automaton.specs.Stream.Overlapping.Search.{HasReadHeld, IsListedAt, ListsOn}
use Rattle.ac_automaton.specs.declared.ahead.Ahead.{Ahead}
use Rattle.ac_automaton.specs.declared.automaton.Automaton.{Ghosts}
use Rattle.ac_automaton.specs.declared.stream.overlapping.search.ListPlace.{ListPlace}
use Rattle.ac_automaton.specs.declared.stream.overlapping.search.Listed.{Listed}

module _ {S : Type 0} (A : Ghosts S) (automaton : S) where
  -- a search that has come this far stands here
  abbrev pub StandsListing : StreamProgress Occurrences → ListPlace → List ℕ → Type 0
  StandsListing s place held =
      IsListedAt (A.built automaton) (A.Reaches automaton No) (A.matches automaton) s place held

  -- a search may stand here, however far it has come
  abbrev pub MayList : ListPlace → List ℕ → Type 0
  MayList place held = (s : StreamProgress Occurrences) × StandsListing s place held

  -- a search may stand here, whatever it holds, and has occurrences of its state's list left to return
  abbrev pub MayGive : ListPlace → Type 0
  MayGive place = ((held : List ℕ) × MayList place held) × (place.index < place.len)

  -- however far the search had come, it read on from here to the next state that matches, or to the last byte
  abbrev pub ReadsHeld : ListPlace → List ℕ → ListPlace → Steps → Steps → Type 0
  ReadsHeld place held there before after =
      (s : StreamProgress Occurrences) → StandsListing s place held
      → HasReadHeld (A.Reaches automaton No) (A.matches automaton) s place there before after

  -- the next occurrence of the state's list is returned
  abbrev pub GivesOfState : ListPlace → Listed → Type 0
  GivesOfState place r =
      (n : ℕ) × (r.found ≡ Some (ending_at (A.built automaton).dictionary place.at n))
      × (r.place ≡ record place { index = place.index + 1 })
      × (slice_get (A.matches automaton place.sid) place.index ≡ Some n)
      × (n < length (A.built automaton).dictionary.patterns)

  -- however far the search had come, it went on from here to the next occurrence, or to the end of what was read
  abbrev pub ListsNext : ListPlace → List ℕ → Listed → Steps → Steps → Type 0
  ListsNext place held r before after =
      (s : StreamProgress Occurrences) → StandsListing s place held
      → ListsOn (A.Reaches automaton No) (A.matches automaton) s place r before after

  -- what was read ahead of the search, over the bytes of the last read
  abbrev pub IsAheadFor : List ℕ → ListPlace → Ahead → Type 0
  IsAheadFor held place ahead = IsAheadOf A automaton None held (place.at - place.from) place.sid ahead
