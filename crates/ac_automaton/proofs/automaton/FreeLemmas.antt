-- Under standard, a byte that stands in no entered pattern leads an unanchored search back to its start.
use Rattle.std.proofs.Common.{◌≡◌, ℕ, false, IsTrue, List, [], ◌∷◌, ◌++◌, Some}
use Rattle.std.specs.Coded.{Coded-set, coded_ℕ}
use Rattle.std.proofs.Math.Logic.{∥∥₁_elim}
use Rattle.ac_input.specs.declared.search.Anchored.TheVariants.{No}
use Rattle.ac_input.specs.declared.search.MatchKind.TheVariants.{Standard}
use Rattle.ac_input.specs.Alphabet.Classes.{IsByteOf}
use Rattle.ac_input.specs.Dictionary.{Dictionary}
use Rattle.ac_input.proofs.lemmas.UnusedLemmas.{unused-starts}
use Rattle.ac_automaton.specs.Named.{NamedStates, Naming, IsNamed, IsReadBy}

-- of the numbers that unanchored searches reach, only the start stands for the empty text
abbrev pub IsOnlyStart : Naming → ℕ → Type 0
IsOnlyStart names start = (sid : ℕ) → IsTrue (names.met false sid) → names.text sid ≡ Some [] → sid ≡ start

-- where a text and such a byte lead to a number, it is the start
pub named-frees : {m : Dictionary} {names : Naming} (text : List ℕ) {start : ℕ} (byte : ℕ) {sid : ℕ} → m.kind ≡ Standard
    → (¬ IsByteOf m byte) → IsOnlyStart names start → IsNamed m names false (text ++ byte ∷ []) sid → sid ≡ start
named-frees {m} text byte {sid} standard unused only named =
    only sid named.met (unused-starts m text byte standard unused named.leads)

-- a search that has just read such a byte is at the start
pub read-frees : (states : NamedStates) (text : List ℕ) (start byte sid : ℕ) → states.built.dictionary.kind ≡ Standard
    → ((names : Naming) → states.Fits names → (¬ IsByteOf states.built.dictionary byte) × IsOnlyStart names start)
    → IsReadBy states No (text ++ byte ∷ []) sid → sid ≡ start
read-frees states text start byte sid standard free reads =
    ∥∥₁_elim reads.reached (Coded-set coded_ℕ sid start) (λ w.
    let is = free w.0 w.1 in
    named-frees text byte standard is.0 is.1 w.2)
