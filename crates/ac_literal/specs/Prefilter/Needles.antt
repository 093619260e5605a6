-- The first of a few bytes, and what it costs to find it.
use Rattle.std.specs.Prelude.{◌≡◌, ◌≢◌, ℕ, ◌+◌, ◌-◌, ◌⊎◌, Bool, true, false, ◌==◌, nat_lt, ◌&&◌, ◌||◌, List, [], ◌∷◌, Option, None, Some, MatchOption, IsTrue}
use Rattle.memchr.specs.Find.{is_byte, is_byte2, is_byte3}
use Rattle.ac_input.specs.declared.search.Span.{Span}
use Rattle.ac_literal.specs.declared.prefilter.needles.Needles.{Needles}
use Rattle.ac_literal.specs.declared.prefilter.needles.Needles.TheVariants.{One, Two, Three}
use Rattle.ac_literal.specs.declared.prefilter.needles.FewBytes.{FewBytes}
use Rattle.ac_literal.specs.declared.prefilter.needles.FewBytes.TheVariants as few

-- the first byte that isn't ASCII
abbrev pub ascii_limit : ℕ
ascii_limit = 0x80

-- how many bytes a scan looks for at most
abbrev pub most_needles : ℕ
most_needles = 3

-- whether a byte is one of the needles
abbrev pub is_needle : Needles → ℕ → Bool
is_needle (One a) byte = is_byte a byte
is_needle (Two a b) byte = is_byte2 a b byte
is_needle (Three a b c) byte = is_byte3 a b c byte

-- the needles, in their order
abbrev pub needle_list : Needles → List ℕ
needle_list (One a) = a ∷ []
needle_list (Two a b) = a ∷ (b ∷ [])
needle_list (Three a b c) = a ∷ (b ∷ (c ∷ []))

-- whether all needles are ASCII
abbrev pub all_ascii : Needles → Bool
all_ascii (One a) = nat_lt a ascii_limit
all_ascii (Two a b) = nat_lt a ascii_limit && nat_lt b ascii_limit
all_ascii (Three a b c) = nat_lt a ascii_limit && nat_lt b ascii_limit && nat_lt c ascii_limit

-- how many places of the span a scan covered: those up to and including the one found, or all where none was found
abbrev pub covered : Span → Option ℕ → ℕ
covered span None = span.end - span.start
covered span (Some at) = at + 1 - span.start

-- a test, and one more byte that passes it
abbrev pub with_byte : (ℕ → Bool) → ℕ → ℕ → Bool
with_byte f added byte = f byte || (added == byte)

-- no needle stands twice
abbrev pub AreApart : Needles → Type 0
AreApart (One a) = Unit {0}
AreApart (Two a b) = a ≢ b
AreApart (Three a b c) = (a ≢ b) × (a ≢ c) × (b ≢ c)

-- the needles are the bytes that pass the test
pub record AreNeedles (needles : Needles) (f : ℕ → Bool) : Type 0 where
  pub apart : AreApart needles
  pub exact : (byte : ℕ) → is_needle needles byte ≡ f byte

-- four different bytes pass the test
pub record HasFour (f : ℕ → Bool) : Type 0 where
  pub a : ℕ
  pub b : ℕ
  pub c : ℕ
  pub d : ℕ
  pub apart : (a ≢ b) × (a ≢ c) × (a ≢ d) × (b ≢ c) × (b ≢ d) × (c ≢ d)
  pub pass : IsTrue (f a) × IsTrue (f b) × IsTrue (f c) × IsTrue (f d)

-- the needles of a test and one more byte; none where there would be four
abbrev pub AddsNeedle : Needles → ℕ → Option Needles → Type 0
AddsNeedle before added after =
    (f : ℕ → Bool) → AreNeedles before f
    → MatchOption after (HasFour (with_byte f added)) (λ needles. AreNeedles needles (with_byte f added))

-- the bytes that pass the test, where they are few
abbrev pub AreFew : FewBytes → (ℕ → Bool) → Type 0
AreFew few.None f = (byte : ℕ) → f byte ≡ false
AreFew (few.Some needles) f = AreNeedles needles f
AreFew few.TooMany f = HasFour f

-- whether a byte may be among the few bytes; where there are too many, each may be
abbrev pub few_has : FewBytes → ℕ → Bool
few_has few.None byte = false
few_has (few.Some needles) byte = is_needle needles byte
few_has few.TooMany byte = true

-- whether a byte is known to be among the few bytes; where there are too many, none is
abbrev pub few_surely_has : FewBytes → ℕ → Bool
few_surely_has few.None byte = false
few_surely_has (few.Some needles) byte = is_needle needles byte
few_surely_has few.TooMany byte = false

-- the bytes that were there are kept, one is added, and no other is known to be there
pub record AddsByte (before : FewBytes) (added : ℕ) (after : FewBytes) : Type 0 where
  pub kept : (byte : ℕ) → IsTrue (few_has before byte) → IsTrue (few_has after byte)
  pub has : IsTrue (few_has after added)
  pub only : (byte : ℕ) → IsTrue (few_surely_has after byte) → IsTrue (few_surely_has before byte) ⊎ (added ≡ byte)
