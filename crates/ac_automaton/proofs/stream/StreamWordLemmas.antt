-- The whole words of a text, one after another: they lie in order, and an empty text has none.
use Rattle.std.proofs.Common.{◌≡◌, ℕ, ◌+◌, ◌≤◌, false, List, [], ◌∷◌, length, Option, None, Some, refl, arith}
use Rattle.std.proofs.lemmas.Option.{slice_get_within}
use Rattle.ac_input.specs.declared.search.MatchKind.{MatchKind}
use Rattle.ac_input.specs.Dictionary.{Dictionary, whole}
use Rattle.ac_input.specs.Occurrence.{Occurrence, Search, starting_at}
use Rattle.ac_input.specs.Walk.{Further, Here, IsPickAmong, IsWalkAmong}
use Rattle.ac_input.specs.Word.{OccursWhole}
use Rattle.ac_input.specs.Work.{shortest}
use Rattle.ac_input.proofs.lemmas.AmongLemmas.{among-walk}
use Rattle.ac_input.proofs.lemmas.UnusedLemmas.{occurs-some}
use Rattle.ac_input.proofs.lemmas.WordLemmas.{whole-counted}
use Rattle.ac_automaton.specs.InMemory.Replace.{LieInOrder}
use Rattle.ac_automaton.specs.Stream.{Words, items_of}

-- a pick is a whole word from some place on, at or after the place of the walk
pub pick-word : {kind : MatchKind} {s : Search} {at : ℕ} {last : Option ℕ} {o : Occurrence}
    → IsPickAmong OccursWhole kind s at last (Some o) → (from : ℕ) × (at ≤ from) × OccursWhole (starting_at s from) o
pick-word {at} (Here best fresh) = (at, omega arith, best.0)
pick-word {at} (Further b first again best) = (at + 1, omega arith, best.0)

-- the picks of a walk lie in order
word_walk-lies : (kind : MatchKind) (s : Search) (at : ℕ) (last : Option ℕ) (os : List Occurrence)
    → IsWalkAmong OccursWhole kind s at last os → LieInOrder (length s.patterns) s.end at os
word_walk-lies kind s at last [] walk = tt
word_walk-lies kind s at last (o ∷ os) walk =
    let from = pick-word walk.0 in
    let occurs = from.2.0 in
    let number = slice_get_within s.patterns o.pattern occurs.same.0 occurs.same.1 in
    let within = occurs.within in
    (number, omega (arith, from.1, within.0), within.1, within.2, word_walk-lies kind s o.end (Some o.end) os walk.1)

-- the words of a text are a walk
pub words-walk : (m : Dictionary) (x : List ℕ)
    → IsWalkAmong OccursWhole m.kind (whole m x false) 0 None (items_of Words m x)
words-walk m x = among-walk whole-counted m.kind (whole m x false) 0 None (omega arith)

-- they lie in order
pub words-lie : (m : Dictionary) (x : List ℕ) → LieInOrder (length m.patterns) (length x) 0 (items_of Words m x)
words-lie m x = word_walk-lies m.kind (whole m x false) 0 None (items_of Words m x) (words-walk m x)

-- an empty text has no word
no-words_walked : (m : Dictionary) (os : List Occurrence) → 1 ≤ shortest m.patterns
    → IsWalkAmong OccursWhole m.kind (whole m [] false) 0 None os → [] ≡ os
no-words_walked m [] filled walk = refl
no-words_walked m (o ∷ os) filled walk =
    let found = pick-word walk.0 in
    let some = occurs-some (omega arith) filled found.2.0 in
    let within = found.2.0.within.2 in
    absurd (omega arith)

pub no-words : (m : Dictionary) → 1 ≤ shortest m.patterns → [] ≡ items_of Words m []
no-words m filled = no-words_walked m (items_of Words m []) filled (words-walk m [])
