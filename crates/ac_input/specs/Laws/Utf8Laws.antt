-- The laws of UTF-8: in a text, an occurrence of a pattern that is a text begins and ends between characters.
use Rattle.std.specs.Prelude.{◌≡◌, ℕ, ◌+◌, ◌<◌, nat_le, nat_lt, ◌&&◌, if◌then◌else◌, List, length, IsCharBoundary, Contains}
use Rattle.std.specs.Str.{IsUtf8, continuation_len}
use Rattle.ac_input.specs.Same.{other}
use Rattle.ac_input.specs.Occurrence.{Search, Occurrence, Occurs}
use Rattle.ac_input.specs.Laws.{IsInside}

-- how many bytes a character has that begins with this byte; 0 where the byte continues a character
abbrev pub char_len : ℕ → ℕ
char_len byte = if nat_le 128 byte && nat_lt byte 192 then 0 else continuation_len byte + 1

-- A byte and its partner begin characters of equal length, or both continue a character.
abbrev pub KeepsChars : List ℕ → Type 0
KeepsChars pairing = (byte : ℕ) → char_len (other pairing byte) ≡ char_len byte

-- each pattern is UTF-8, and none is empty
abbrev pub AreFullTexts : List (List ℕ) → Type 0
AreFullTexts patterns = (p : List ℕ) → Contains patterns p → IsUtf8 p × (0 < length p)

-- a search of a text for texts
pub record IsTextSearch (s : Search) : Type 0 where
  pub haystack : IsUtf8 s.haystack
  pub patterns : AreFullTexts s.patterns
  pub pairing : KeepsChars s.pairing
  pub inside : IsInside s

-- an occurrence of a text in a text begins and ends between characters
abbrev pub TextOccursBetweenChars : Type 0
TextOccursBetweenChars =
    (s : Search) (o : Occurrence) → IsTextSearch s → Occurs s o
    → IsCharBoundary s.haystack o.start × IsCharBoundary s.haystack o.end
