-- The bytes that share their class with another stand in no entered pattern.
use Rattle.std.proofs.Common.{◌≡◌, ◌≢◌, ◌⊎◌, inl, inr, ⊎_elim, ℕ, ◌<◌, Bool, true, IsTrue, List, sym, ap, ◌∙◌}
use Rattle.std.specs.Prelude.{◌==◌, ◌||◌}
use Rattle.std.proofs.lemmas.Bool.{or_cases, eqb-true}
use Rattle.ac_input.specs.Alphabet.{has, class}
use Rattle.ac_input.specs.Alphabet.Classes.{IsByteOf}
use Rattle.ac_input.specs.Dictionary.{Dictionary}
use Rattle.ac_tables.specs.Source.{AreBytesAlone, ShareClasses}

-- a byte that shares its class with another stands in no entered pattern
pub shared-unused : (m : Dictionary) (classes : List ℕ) (set : List Bool) (byte : ℕ) → AreBytesAlone m classes
    → ShareClasses classes set → byte < 256 → IsTrue (has set byte) → ¬ IsByteOf m byte
shared-unused m classes set byte alone share small within stands =
    let other = share byte small within in
    other.2 (alone byte small stands other.0 other.1 other.3)

-- a byte that was in the set, or is the one that was added
abbrev pub IsAdded : ℕ → List Bool → List Bool → Type 0
IsAdded byte old new = (b : ℕ) → has new b ≡ ((b == byte) || has old b)

-- which bytes are in a set to which a byte was added
added-cases : (byte : ℕ) (old new : List Bool) (b : ℕ) → IsAdded byte old new → IsTrue (has new b)
    → (b ≡ byte) ⊎ IsTrue (has old b)
added-cases byte old new b add within =
    ⊎_elim (λ (here : (b == byte) ≡ true). inl (eqb-true b byte here)) (λ (before : has old b ≡ true). inr before)
    (or_cases (b == byte) (has old b) (sym (add b) ∙ within))

-- two bytes of one class may be added
pub share-both : (classes : List ℕ) (old mid new : List Bool) (a b : ℕ) → ShareClasses classes old → IsAdded a old mid
    → IsAdded b mid new → a < 256 → b < 256 → a ≢ b → class classes a ≡ class classes b → ShareClasses classes new
share-both classes old mid new a b share first second a_small b_small apart same byte small within =
    ⊎_elim
    (λ (is : byte ≡ b). (a, a_small, (λ e. apart (e ∙ is)), same ∙ sym (ap (class classes) is)))
    (λ (more : IsTrue (has mid byte)).
    ⊎_elim
    (λ (is : byte ≡ a). (b, b_small, (λ e. apart (sym (e ∙ is))), sym same ∙ sym (ap (class classes) is)))
    (λ (rest : IsTrue (has old byte)). share byte small rest)
    (added-cases a old mid byte first more))
    (added-cases b mid new byte second within)
