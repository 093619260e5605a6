-- The law of what is decided in a stream.
use Rattle.std.specs.Prelude.{◌≤◌, List, ℕ, [], ◌∷◌, ◌++◌, drop, false, None, Some}
use Rattle.ac_input.specs.Best.{IsBest}
use Rattle.ac_input.specs.Dictionary.{Dictionary, IsLive, whole}
use Rattle.ac_input.specs.Laws.LiveLaws.{shifted}
use Rattle.ac_input.specs.Occurrence.{Occurrence}
use Rattle.ac_input.specs.Work.{shortest}
use Rattle.ac_automaton.specs.Stream.{end_of}
use Rattle.ac_input.specs.Computed.{walk_of}
use Rattle.ac_input.specs.Laws.BeginningLaws.{IsBeginning}

-- if some matches of a text are decided and the text after them is dead, the best match in the latter is decided too
abbrev pub DeathDecides : Type 0
DeathDecides =
    (m : Dictionary) (x : List ℕ) (os : List Occurrence) (o : Occurrence) → 1 ≤ shortest m.patterns
    → ((more : List ℕ) → IsBeginning os (walk_of m.kind (whole m (x ++ more) false)))
    → IsLive m false (drop (end_of os) x) None
    → IsBest m.kind (whole m (drop (end_of os) x) false) (Some o)
    → ((more : List ℕ) → IsBeginning (os ++ shifted (end_of os) o ∷ []) (walk_of m.kind (whole m (x ++ more) false)))
