-- What the walk of an automaton over the held bytes of a stream requires, and how it goes on.
use Rattle.std.specs.Prelude.{ℕ, ◌-◌, List, Some}
use Rattle.ac_input.specs.Number.{StateID}
use Rattle.ac_input.specs.declared.search.Anchored.TheVariants.{No}
use Rattle.ac_input.specs.declared.steps.Steps.{Steps}
use Rattle.ac_automaton.specs.InMemory.Find.Ahead.{IsAheadOf}
use Rattle.ac_automaton.specs.Stream.{StreamProgress, Picks}
use Rattle.ac_automaton.specs.Stream.Search.{IsHeldAt, Searched, SearchesOn}
use Rattle.ac_automaton.specs.declared.ahead.Ahead.{Ahead}
use Rattle.ac_automaton.specs.declared.automaton.Automaton.{Ghosts}
use Rattle.ac_automaton.specs.declared.stream.search.Progress.{Progress}

module _ {S : Type 0} (A : Ghosts S) (automaton : S) where
  -- a search that has come this far stands here
  abbrev pub StandsAfter : StreamProgress Picks → StateID → Progress → List ℕ → Type 0
  StandsAfter s start progress held = IsHeldAt (A.built automaton) (A.Reaches automaton No) s start progress held

  -- a search may stand here, however far it has come
  abbrev pub MayWalk : StateID → Progress → List ℕ → Type 0
  MayWalk start progress held = (s : StreamProgress Picks) × StandsAfter s start progress held

  -- however far the search had come, it went on to the next match, or to the end of the held bytes
  abbrev pub WalksOn : StateID → Progress → List ℕ → Searched → Steps → Steps → Type 0
  WalksOn start progress held searched before after =
      (s : StreamProgress Picks) → StandsAfter s start progress held
      → SearchesOn (A.Reaches automaton No) s start searched before after

  -- what was read ahead of the search, over the held bytes
  abbrev pub IsAheadBy : StateID → List ℕ → Progress → Ahead → Type 0
  IsAheadBy start held p ahead = IsAheadOf A automaton (Some start) held (p.at - p.from) p.sid ahead
