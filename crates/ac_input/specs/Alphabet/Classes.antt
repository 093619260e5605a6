-- The classes of bytes of a dictionary: bytes of one class lead alike from every state.
use Rattle.std.specs.Prelude.{◌≡◌, ◌↔◌, ℕ, ◌+◌, ◌<◌, Bool, true, false, List, [], ◌∷◌, ◌++◌, Option, Contains, IsTrue}
use Rattle.ac_input.specs.Alphabet.{has, class, is_edge, AreClassesOf, alphabet_len}
use Rattle.ac_input.specs.Dictionary.{Dictionary, IsEntered}
use Rattle.ac_input.specs.Same.{same}
use Rattle.ac_input.specs.States.{LeadsTo}

-- the byte stands in an entered pattern, or its partner does
abbrev pub IsByteOf : Dictionary → ℕ → Type 0
IsByteOf m byte = (n : ℕ) × (p : List ℕ) × (c : ℕ) × IsEntered m n p × Contains p c × IsTrue (same m.pairing c byte)

-- A byte ends a class if it or the next byte, or a partner of either, stands in an entered pattern. So each of those
-- bytes is a class alone.
abbrev pub AreByteClasses : Dictionary → List ℕ → Type 0
AreByteClasses m classes =
    (boundaries : List Bool) × AreClassesOf boundaries classes
    × ((b : ℕ) → b < 255 → IsTrue (has boundaries b)
    ↔ ((byte : ℕ) × (byte < 256) × IsByteOf m byte × IsTrue (is_edge byte byte b)))

-- how many classes an automaton has: those of the dictionary, or one for each byte where bytes aren't put into classes
abbrev pub IsAlphabet : Dictionary → Bool → ℕ → Type 0
IsAlphabet m true n = (classes : List ℕ) × AreByteClasses m classes × (n ≡ alphabet_len classes)
IsAlphabet m false n = n ≡ 256

-- a class ends after the byte, and one ends before it
abbrev pub IsParted : List Bool → ℕ → Type 0
IsParted boundaries byte =
    (has boundaries byte ≡ true) × ((before : ℕ) → before + 1 ≡ byte → has boundaries before ≡ true)

-- the byte is a class of its own
abbrev pub IsAlone : List ℕ → ℕ → Type 0
IsAlone classes byte = (b : ℕ) → b < 256 → class classes b ≡ class classes byte → b ≡ byte

-- after whatever was read, from either start, both bytes lead to one state
abbrev pub BytesLeadAlike : Dictionary → ℕ → ℕ → Type 0
BytesLeadAlike m b c =
    (anchored : Bool) (text : List ℕ) (r : Option (List ℕ)) → LeadsTo m anchored (text ++ b ∷ []) r
    → LeadsTo m anchored (text ++ c ∷ []) r

-- bytes of one class lead alike
abbrev pub ClassesLeadAlike : Dictionary → List ℕ → Type 0
ClassesLeadAlike m classes = (b c : ℕ) → b < 256 → c < 256 → class classes b ≡ class classes c → BytesLeadAlike m b c

-- in every dictionary, bytes of one class lead alike
abbrev pub EachLeadsAlike : Type 0
EachLeadsAlike = (m : Dictionary) (classes : List ℕ) → AreByteClasses m classes → ClassesLeadAlike m classes

-- a dictionary has only one number of classes
abbrev pub AlphabetsAreOneNumber : Type 0
AlphabetsAreOneNumber =
    (m : Dictionary) (classes : Bool) (a b : ℕ) → IsAlphabet m classes a → IsAlphabet m classes b → a ≡ b
