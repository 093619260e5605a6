-- What a set of bytes, the boundaries between classes of bytes, and the classes themselves are.
pub mod Classes
use Rattle.std.specs.Prelude.{◌≡◌, ◌≢◌, ℕ, zero, suc, ◌+◌, ◌^◌, ◌⊎◌, ◌<◌, ◌≤◌, nat_le, ◌==◌, ◌&&◌, ◌||◌, Bool, false, if◌then◌else◌, Option, None, Some, List, [], ◌∷◌, length, get_or, filter}
use Rattle.std.specs.List.{range_with_len}

-- whether the byte is in the set, which is a table of 256 flags
abbrev pub has : List Bool → ℕ → Bool
has set byte = get_or set byte false

-- how many of the bytes below this one are in the set
abbrev pub count_below : List Bool → ℕ → ℕ
count_below set zero = 0
count_below set (suc n) = count_below set n + (if has set n then 1 else 0)

-- how many of the 256 bytes are in the set
unfoldable pub set_len : List Bool → ℕ
set_len set = count_below set 256

-- the range begins or ends between this byte and the next
abbrev pub is_edge : ℕ → ℕ → ℕ → Bool
is_edge start end byte = (byte == end) || (byte + 1 == start)

-- the range holds just one of this byte and the next
abbrev pub HoldsJustOne : ℕ → ℕ → ℕ → Type 0
HoldsJustOne start end byte =
    (nat_le start byte && nat_le byte end) ≢ (nat_le start (byte + 1) && nat_le (byte + 1) end)

-- the class of a byte in a table of classes
abbrev pub class : List ℕ → ℕ → ℕ
class classes byte = get_or classes byte 0

-- A table of classes has an entry for each of the 256 bytes. Byte 0 is in class 0, and each other byte is in the class
-- of the byte before it or in the next class.
pub record IsClasses (classes : List ℕ) : Type 0 where
  pub len : length classes ≡ 256
  pub first : class classes 0 ≡ 0
  pub next : (b : ℕ) → b < 255 → (class classes (b + 1) ≡ class classes b)
      ⊎ (class classes (b + 1) ≡ class classes b + 1)

-- The classes that boundaries make. A boundary is a byte after which a class ends. Byte 0 is in class 0; any other byte
-- is in the next class if the byte before it is a boundary, else in that byte's class.
pub record AreClassesOf (boundaries : List Bool) (classes : List ℕ) : Type 0 where
  pub first : class classes 0 ≡ 0
  pub next : (b : ℕ) → b < 255 → class classes (b + 1) ≡ class classes b + (if has boundaries b then 1 else 0)

-- how many classes there are: one more than the class of the last byte
abbrev pub alphabet_len : List ℕ → ℕ
alphabet_len classes = class classes 255 + 1

-- the least exponent for which two to it is at least n
pub record IsLeastExponent (n exponent : ℕ) : Type 0 where
  pub enough : n ≤ 2 ^ exponent
  pub least : (e : ℕ) → n ≤ 2 ^ e → exponent ≤ e

-- the least power of two that is at least n
abbrev pub IsLeastPowerOfTwo : ℕ → ℕ → Type 0
IsLeastPowerOfTwo n power = (exponent : ℕ) × IsLeastExponent n exponent × (power ≡ 2 ^ exponent)

-- the bytes of class `wanted` among the `count` bytes from byte `at` on
abbrev pub elements_from : List ℕ → ℕ → ℕ → ℕ → List ℕ
elements_from classes wanted at count = filter (λ b. class classes b == wanted) (range_with_len at count)

-- the bytes of a class, in order
unfoldable pub elements : List ℕ → ℕ → List ℕ
elements classes wanted = elements_from classes wanted 0 256

-- the runs of a rising list of bytes, after an open run from start to end; each run is given by its first and its last
-- byte
abbrev pub runs_behind : ℕ → ℕ → List ℕ → List (ℕ × ℕ)
runs_behind start end [] = (start, end) ∷ []
runs_behind start end (b ∷ bs) = if b == end + 1 then runs_behind start b bs else (start, end) ∷ runs_behind b b bs

-- the runs of consecutive bytes in a rising list, each as long as possible, given by its first and its last byte
abbrev pub runs : List ℕ → List (ℕ × ℕ)
runs [] = []
runs (b ∷ bs) = runs_behind b b bs

-- the runs of a rising list of bytes, after an open run where there is one
abbrev pub runs_from : Option (ℕ × ℕ) → List ℕ → List (ℕ × ℕ)
runs_from None bs = runs bs
runs_from (Some open_run) bs = runs_behind open_run.0 open_run.1 bs
