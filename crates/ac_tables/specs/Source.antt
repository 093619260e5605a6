-- The classes of bytes that a table is laid out over.
use Rattle.std.specs.Prelude.{◌≡◌, ◌≢◌, ℕ, ◌<◌, Bool, true, false, IsTrue, List}
use Rattle.ac_input.specs.Alphabet.{has, class}
use Rattle.ac_input.specs.Alphabet.Classes.{IsByteOf, IsAlone, ClassesLeadAlike, AreByteClasses}
use Rattle.ac_input.specs.Dictionary.{Dictionary}
use Rattle.ac_noncontiguous.specs.declared.nfa.NFA.{NFA}
use Rattle.ac_noncontiguous.specs.Nfa.ReadCalls.{classes_in}
use Rattle.ac_noncontiguous.specs.Nfa.Reads.{dictionary}

-- The classes are those of the noncontiguous automaton, which are its dictionary's; if bytes aren't put into classes,
-- each byte is a class alone.
abbrev pub AreClassesFor : NFA → Bool → List ℕ → Type 0
AreClassesFor nfa true classes = (classes ≡ classes_in nfa) × (∥ AreByteClasses (dictionary nfa) (classes_in nfa) ∥₁)
AreClassesFor nfa false classes = (b : ℕ) → b < 256 → class classes b ≡ b

-- each byte that stands in an entered pattern is a class alone
abbrev pub AreBytesAlone : Dictionary → List ℕ → Type 0
AreBytesAlone m classes = (b : ℕ) → b < 256 → IsByteOf m b → IsAlone classes b

-- The classes serve a dictionary: each byte that stands in an entered pattern is a class alone, and bytes of one class
-- lead alike.
pub record AreServing (m : Dictionary) (classes : List ℕ) : Type 0 where
  pub alone : AreBytesAlone m classes
  pub alike : ClassesLeadAlike m classes

-- each byte of the set shares its class with another byte
abbrev pub ShareClasses : List ℕ → List Bool → Type 0
ShareClasses classes set =
    (byte : ℕ) → byte < 256 → IsTrue (has set byte)
    → (other : ℕ) × (other < 256) × (other ≢ byte) × (class classes other ≡ class classes byte)
